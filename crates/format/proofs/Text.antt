-- UTF-8 to UTF-16LE and back is the identity, either way round: both are spellings of the same scalar values, and each spelling is read back and is what was
-- read. Beside it, what UTF-16LE of a text is: an even number of bytes, at most twice as many as the UTF-8.
-- Assumes nothing.
use mathlib.Core.Path.{◌≡◌, refl, ap, sym, ◌∙◌, subst}
use mathlib.Core.List.{List, [], ◌∷◌}
use mathlib.Core.Bool.{not}
use Prim.Native.Nat.{ℕ, ◌+◌, ◌*◌, ◌-◌, ◌/◌, ◌%◌, ◌<◌, ◌≤◌}
use native.Mathlib.Omega.{arith}
use lib.ListN.{length, length-append}
use lib.Seq.{get_or-drop}
use lib.Dec.{eqb}
use borrow.Author.Tests.{eq-eqb, ne_eqb}
use Rattle.format.specs.Answer.{gives, refuses, Read, sequence}
use Rattle.format.specs.Number.{low_bytes}
use Rattle.format.specs.Text.{char8, utf8, char16, utf16, scalars, spelled, text_in, text_out}
use Rattle.format.proofs.Answer.{and_took, passed}
use Rattle.format.proofs.Number.{Bytes}
use Rattle.format.proofs.Plain.{bytes-append, bytes_low}
use Rattle.format.proofs.Characters.{less, converted, Form, spelled_back, spelled_forth}
use Rattle.format.proofs.Utf8.{utf8_one, utf8_two, utf8_three, utf8_four, char8_back, char8_forth}
use Rattle.format.proofs.Utf16.{utf16_one, utf16_two, char16_back, char16_forth}

-- ---- the two forms

-- how many bytes a scalar value has in either form
module _ (c : ℕ) where
  pub utf8-length : (P : ℕ → Type 0) → (c < 0x80 → P 1) → (0x80 ≤ c → c < 0x800 → P 2) → (0x800 ≤ c → c < 0x10000 → P 3) → (0x10000 ≤ c → P 4) →
      P (length (utf8 c))
  utf8-length P p q r s =
      less c 0x80 (λ i. rw (utf8_one c i) (p i))
      (λ i. less c 0x800 (λ j. rw (utf8_two c i j) (q i j))
      (λ j. less c 0x10000 (λ k. rw (utf8_three c j k) (r j k))
      (λ k. rw (utf8_four c k) (s k))))

  pub utf16-length : (P : ℕ → Type 0) → (c < 0x10000 → P 2) → (0x10000 ≤ c → P 4) → P (length (utf16 c))
  utf16-length P p q = less c 0x10000 (λ i. rw (utf16_one c i) (p i)) (λ i. rw (utf16_two c i) (q i))

pub form8 : Form char8 utf8 (λ _. Unit {0})
form8 = record {
  rest = λ n s t. tt;
  some = λ c. utf8-length c (λ n. 0 < n) (λ i. omega arith) (λ i j. omega arith) (λ i j. omega arith) (λ i. omega arith);
  back = char8_back;
  forth = λ s c n t h. char8_forth c n s h;
}

pub form16 : Form char16 utf16 Bytes
form16 = record {
  rest = λ n s b i. subst (λ (x : ℕ). x < 256) (sym (get_or-drop n s i 0)) (b (n + i));
  some = λ c. utf16-length c (λ n. 0 < n) (λ i. omega arith) (λ i. omega arith);
  back = char16_back;
  forth = λ s c n b h. char16_forth c n s b h;
}

-- the bytes of a text in UTF-16LE, against its UTF-8
pub utf16-short : (c : ℕ) → length (utf16 c) ≤ 2 * length (utf8 c)
utf16-short c =
    utf16-length c (λ n. n ≤ 2 * length (utf8 c)) (λ i. omega (arith, form8.some c))
    (λ i. rw (utf8_four c i) (omega arith))

pub utf8-short : (c : ℕ) → 2 * length (utf8 c) ≤ 3 * length (utf16 c)
utf8-short c =
    utf16-length c (λ n. 2 * length (utf8 c) ≤ 3 * n)
    (λ i. utf8-length c (λ n. 2 * n ≤ 6) (λ j. omega arith) (λ j k. omega arith) (λ j k. omega arith) (λ j. absurd (omega arith)))
    (λ i. rw (utf8_four c i) (omega arith))

-- ---- a text

-- what a conversion gives, it spells of what it read
pub converted_gives : (char : List ℕ → Read ℕ) (spell : ℕ → List ℕ) (s u : List ℕ) → converted char spell s ≡ gives u →
    (cs : List ℕ) × (scalars char 0 s ≡ gives cs) × (spelled spell cs ≡ u)
converted_gives char spell s u h =
    let p = and_took (scalars char 0 s) (λ cs. gives (spelled spell cs)) u h in
    (p.0, p.1, cc p.2)

pub in_gives : (s u : List ℕ) → text_in s ≡ gives u → converted char8 utf16 s ≡ gives u
unfolding text_in
in_gives s u h = h

-- an odd count is refusal 8; an even one is converted
pub out_even : (u : List ℕ) → length u % 2 ≡ 0 → text_out u ≡ converted char16 utf8 u
unfolding text_out
out_even u h = rw (eq-eqb (length u % 2) 0 h)

pub out_odd : (u : List ℕ) → (length u % 2 ≡ 0 → ⊥) → text_out u ≡ refuses sequence
unfolding text_out
out_odd u h = rw (ne_eqb (length u % 2) 0 h)

pub out_gives : (u s : List ℕ) → text_out u ≡ gives s → converted char16 utf8 u ≡ gives s
unfolding text_out
out_gives u s h = (passed (not (eqb (length u % 2) 0)) sequence (converted char16 utf8 u) s h).1

-- what scalar values are in UTF-16LE: an even number of bytes
utf16_even : (c : ℕ) → length (utf16 c) % 2 ≡ 0
utf16_even c = utf16-length c (λ n. n % 2 ≡ 0) (λ i. refl) (λ i. refl)

utf16-bytes : (c : ℕ) → Bytes (utf16 c)
utf16-bytes c =
    let a = 0xD800 + (c - 0x10000) / 1024 in
    let b = 0xDC00 + (c - 0x10000) % 1024 in
    less c 0x10000 (λ i. subst Bytes (sym (utf16_one c i)) (bytes_low 2 c))
    (λ i. subst Bytes (sym (utf16_two c i)) (bytes-append (low_bytes 2 a) (low_bytes 2 b) (bytes_low 2 a) (bytes_low 2 b)))

spelled_even : (cs : List ℕ) → length (spelled utf16 cs) % 2 ≡ 0
unfolding spelled
spelled_even [] = refl
spelled_even (c ∷ cs) = omega (arith, length-append (utf16 c) (spelled utf16 cs), utf16_even c, spelled_even cs)

spelled-bytes : (cs : List ℕ) → Bytes (spelled utf16 cs)
unfolding spelled
spelled-bytes [] = λ i. omega arith
spelled-bytes (c ∷ cs) = bytes-append (utf16 c) (spelled utf16 cs) (utf16-bytes c) (spelled-bytes cs)

-- and at most twice as many as in UTF-8
spelled-short : (cs : List ℕ) → length (spelled utf16 cs) ≤ 2 * length (spelled utf8 cs)
unfolding spelled
spelled-short [] = omega arith
spelled-short (c ∷ cs) =
    omega (arith, length-append (utf16 c) (spelled utf16 cs), length-append (utf8 c) (spelled utf8 cs), utf16-short c, spelled-short cs)

-- ---- the theorems

pub in_then_out : (s u : List ℕ) → text_in s ≡ gives u → text_out u ≡ gives s
in_then_out s u h =
    let p = converted_gives char8 utf16 s u (in_gives s u h) in
    let q = spelled_forth form8 s p.0 tt p.1 in
    let e : length u % 2 ≡ 0 = rw (← p.2) (spelled_even p.0) in
    out_even u e ∙ rw (← p.2, spelled_back form16 p.0 q.1, q.0)

pub out_then_in : (u s : List ℕ) → Bytes u → text_out u ≡ gives s → text_in s ≡ gives u
unfolding text_in
out_then_in u s b h =
    let p = converted_gives char16 utf8 u s (out_gives u s h) in
    let q = spelled_forth form16 u p.0 b p.1 in
    rw (← p.2, spelled_back form8 p.0 q.1, q.0)

pub in_even : (s u : List ℕ) → text_in s ≡ gives u → length u % 2 ≡ 0
in_even s u h = let p = converted_gives char8 utf16 s u (in_gives s u h) in rw (← p.2) (spelled_even p.0)

pub in_short : (s u : List ℕ) → text_in s ≡ gives u → length u ≤ 2 * length s
in_short s u h =
    let p = converted_gives char8 utf16 s u (in_gives s u h) in
    omega (arith, ap length p.2, ap length (spelled_forth form8 s p.0 tt p.1).0, spelled-short p.0)

pub in_bytes : (s u : List ℕ) → text_in s ≡ gives u → Bytes u
in_bytes s u h = let p = converted_gives char8 utf16 s u (in_gives s u h) in rw p.2 at (spelled-bytes p.0)
