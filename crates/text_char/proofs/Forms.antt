-- UTF-8 and UTF-16LE are forms of text: what is read is what is spelled, and neither takes more than twice the bytes of the other. Assumes nothing.
use mathlib.Core.Path.{◌≡◌}
use Prim.Native.Nat.{ℕ, ◌*◌, ◌<◌, ◌≤◌}
use native.Mathlib.Omega.{arith}
use lib.ListN.{length}
use borrow.Author.Tests.{lt-ltb, le-ltb}
use Rattle.format.specs.Text.{char8, utf8, char16, utf16}
use Rattle.format.proofs.Number.{Bytes}
use Rattle.format.proofs.Characters.{less, Form}
use Rattle.format.proofs.Text.{form8, form16, utf8-length, utf16-length}
use Rattle.text_char.specs.Told.{fewest}

pub form_of_utf8 : Form char8 utf8 Bytes
form_of_utf8 = record {
  rest = form16.rest;
  some = form8.some;
  back = form8.back;
  forth = λ s c n b h. form8.forth s c n tt h;
}

pub form_of_utf16 : Form char16 utf16 Bytes
form_of_utf16 = form16

module _ (c : ℕ) where
  few : c < 0x80 → fewest c ≡ 1
  few h = rw (lt-ltb c 0x80 h)

  more : 0x80 ≤ c → fewest c ≡ 2
  more h = rw (le-ltb c 0x80 h)

  at_least : 1 ≤ fewest c
  at_least = less c 0x80 (λ i. omega (arith, few i)) (λ i. omega (arith, more i))

  at_most : fewest c ≤ 2
  at_most = less c 0x80 (λ i. omega (arith, few i)) (λ i. omega (arith, more i))

  pub least8 : fewest c ≤ length (utf8 c)
  least8 = utf8-length c (λ n. fewest c ≤ n) (λ i. omega (arith, few i)) (λ i j. omega (arith, more i)) (λ i j. omega (arith, more (omega arith)))
      (λ i. omega (arith, more (omega arith)))

  pub most8 : length (utf8 c) ≤ 2 * fewest c
  most8 = utf8-length c (λ n. n ≤ 2 * fewest c) (λ i. omega (arith, few i)) (λ i j. omega (arith, more i)) (λ i j. omega (arith, more (omega arith)))
      (λ i. omega (arith, more (omega arith)))

  pub least16 : fewest c ≤ length (utf16 c)
  least16 = utf16-length c (λ n. fewest c ≤ n) (λ i. at_most) (λ i. omega (arith, at_most))

  pub most16 : length (utf16 c) ≤ 2 * fewest c
  most16 = utf16-length c (λ n. n ≤ 2 * fewest c) (λ i. omega (arith, at_least)) (λ i. omega (arith, more (omega arith)))
