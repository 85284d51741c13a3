-- One character of UTF-16LE: its units are read back as the character, and what is read as a character is its units.
-- Assumes nothing.
use mathlib.Core.Path.{◌≡◌, refl, ap, sym, ◌∙◌}
use mathlib.Core.List.{List, [], ◌∷◌, ◌++◌}
use mathlib.Core.Bool.{true, false}
use Prim.Native.Nat.{ℕ, suc, ◌+◌, ◌*◌, ◌-◌, ◌/◌, ◌%◌, ◌<◌, ◌≤◌}
use native.Mathlib.Omega.{arith}
use lib.ListN.{length, drop, length-drop}
use lib.Dec.{ltb}
use borrow.Author.Tests.{lt-ltb, le-ltb}
use Rattle.lists.proofs.Split.{split}
use Rattle.format.specs.Answer.{took, not_text}
use Rattle.format.specs.Number.{low_bytes}
use Rattle.format.specs.Text.{between, unit, pair16, char16, utf16}
use Rattle.format.proofs.Answer.{no_truth}
use Rattle.format.proofs.Number.{Bytes}
use Rattle.format.proofs.Place.{no_took}
use Rattle.format.proofs.Characters.{between_in, between-below, between-above, in_between, less, Scalar, below, above, Forth, forth_is}

-- ---- by the units in front

module _ (s : List ℕ) where
  -- a unit that is no surrogate
  pub lone : 2 ≤ length s → between 0xD800 0xDBFF (unit s) ≡ false → between 0xDC00 0xDFFF (unit s) ≡ false → char16 s ≡ took (unit s) 2
  unfolding char16
  lone h e f = rw (le-ltb (length s) 2 h, e, f)

  -- a high surrogate and a low one
  pub pair : 4 ≤ length s → between 0xD800 0xDBFF (unit s) ≡ true → between 0xDC00 0xDFFF (unit (drop 2 s)) ≡ true →
      char16 s ≡ took (0x10000 + (unit s - 0xD800) * 1024 + (unit (drop 2 s) - 0xDC00)) 4
  unfolding char16
  pair h e f = rw (le-ltb (length s) 2 (omega arith), e, le-ltb (length (drop 2 s)) 2 (omega (arith, length-drop 2 s)), f)

-- ---- the units of a scalar value

pub utf16_one : (c : ℕ) → c < 0x10000 → utf16 c ≡ low_bytes 2 c
unfolding utf16
utf16_one c h = rw (lt-ltb c 0x10000 h)

pub utf16_two : (c : ℕ) → 0x10000 ≤ c → utf16 c ≡ low_bytes 2 (0xD800 + (c - 0x10000) / 1024) ++ low_bytes 2 (0xDC00 + (c - 0x10000) % 1024)
unfolding utf16
utf16_two c h = rw (le-ltb c 0x10000 h)

unit_is : (n : ℕ) (s : List ℕ) → n < 0x10000 → unit (low_bytes 2 n ++ s) ≡ n
unit_is n s h = omega arith

abbrev Back16 : ℕ → List ℕ → Type 0
Back16 c s = char16 (utf16 c ++ s) ≡ took c (length (utf16 c))

back_one : (c : ℕ) (s : List ℕ) → c < 0x10000 → between 0xD800 0xDBFF c ≡ false → between 0xDC00 0xDFFF c ≡ false → Back16 c s
back_one c s h e f =
    let u = unit_is c s h in
    rw (utf16_one c h) (lone (low_bytes 2 c ++ s) (omega arith) (rw u e) (rw u f) ∙ rw u)

back_two : (c : ℕ) (s : List ℕ) → 0x10000 ≤ c → c ≤ 0x10FFFF → Back16 c s
back_two c s h k =
    let a = 0xD800 + (c - 0x10000) / 1024 in
    let b = 0xDC00 + (c - 0x10000) % 1024 in
    let u = unit_is a (low_bytes 2 b ++ s) (omega arith) in
    let v = unit_is b s (omega arith) in
    let e : 0x10000 + (a - 0xD800) * 1024 + (b - 0xDC00) ≡ c = omega arith in
    rw (utf16_two c h)
    (pair (low_bytes 2 a ++ (low_bytes 2 b ++ s)) (omega arith) (rw u (between_in 0xD800 0xDBFF a (omega arith) (omega arith)))
    (rw v (between_in 0xDC00 0xDFFF b (omega arith) (omega arith))) ∙ rw (u, v, e))

pub char16_back : (c : ℕ) (s : List ℕ) → Scalar c → Back16 c s
char16_back c s (below h) = back_one c s (omega arith) (between-below 0xD800 0xDBFF c h) (between-below 0xDC00 0xDFFF c (omega arith))
char16_back c s (above h i) =
    less c 0x10000 (λ j. back_one c s j (between-above 0xD800 0xDBFF c (omega arith)) (between-above 0xDC00 0xDFFF c h)) (λ j. back_two c s j i)

-- ---- what is read is a scalar value's units

unit-bytes : (x y : ℕ) (s : List ℕ) → x < 256 → y < 256 → low_bytes 2 (unit (x ∷ y ∷ s)) ≡ x ∷ y ∷ []
unit-bytes x y s i j =
    let n = unit (x ∷ y ∷ s) in
    let e : n % 256 ≡ x = omega arith in
    let d : n / 256 ≡ y = omega arith in
    let f : y % 256 ≡ y = omega arith in
    rw (e, d, f)

-- what the two ranges of surrogates leave out
outside : (n : ℕ) → between 0xD800 0xDBFF n ≡ false → between 0xDC00 0xDFFF n ≡ false → n < 0x10000 → Scalar n
outside n e f l =
    less n 0xD800 (λ i. below i)
    (λ i. less n 0xDC00 (λ j. no_truth (sym e ∙ between_in 0xD800 0xDBFF n i (omega arith)))
    (λ j. less 0xDFFF n (λ k. above k (omega arith))
    (λ k. no_truth (sym f ∙ between_in 0xDC00 0xDFFF n j k))))

module _ (c n : ℕ) where
  forth_pair : (x y : ℕ) (s : List ℕ) → x < 256 → y < 256 → Bytes s → between 0xD800 0xDBFF (unit (x ∷ y ∷ s)) ≡ true →
      pair16 (unit (x ∷ y ∷ s)) s ≡ took c n → Forth utf16 (x ∷ y ∷ s) c n
  forth_pair x y [] i j b e h = no_took not_text c n h
  forth_pair x y (p ∷ []) i j b e h = no_took not_text c n h
  forth_pair x y (p ∷ q ∷ s) i j b e h =
      let f : ltb (length (p ∷ q ∷ s)) 2 ≡ false = le-ltb (length (p ∷ q ∷ s)) 2 (omega arith) in
      split (between 0xDC00 0xDFFF (unit (p ∷ q ∷ s))) (λ g t. both g t) (λ g t. no_took not_text c n t) (rw f at h)
    where
      both : between 0xDC00 0xDFFF (unit (p ∷ q ∷ s)) ≡ true →
          took (0x10000 + (unit (x ∷ y ∷ s) - 0xD800) * 1024 + (unit (p ∷ q ∷ s) - 0xDC00)) 4 ≡ took c n → Forth utf16 (x ∷ y ∷ p ∷ q ∷ s) c n
      both g t =
          let a = unit (x ∷ y ∷ p ∷ q ∷ s) in
          let d = unit (p ∷ q ∷ s) in
          let k = in_between 0xD800 0xDBFF a e in
          let l = in_between 0xDC00 0xDFFF d g in
          let v = 0x10000 + (a - 0xD800) * 1024 + (d - 0xDC00) in
          let high = 0xD800 + (v - 0x10000) / 1024 in
          let low = 0xDC00 + (v - 0x10000) % 1024 in
          let m : low_bytes 2 high ≡ x ∷ y ∷ [] = ap (low_bytes 2) (omega arith) ∙ unit-bytes x y s i j in
          let o : low_bytes 2 low ≡ p ∷ q ∷ [] = ap (low_bytes 2) (omega arith) ∙ unit-bytes p q s (b 0) (b 1) in
          let u : utf16 v ≡ x ∷ y ∷ p ∷ q ∷ [] = utf16_two v (omega arith) ∙ ap (λ (l : List ℕ). l ++ low_bytes 2 low) m ∙ ap (λ (l : List ℕ). x ∷ y ∷ l) o in
          forth_is utf16 (x ∷ y ∷ p ∷ q ∷ s) (x ∷ y ∷ p ∷ q ∷ []) s c n v 4 refl u refl t (above (omega arith) (omega arith))

  pub char16_forth : (s : List ℕ) → Bytes s → char16 s ≡ took c n → Forth utf16 s c n
  unfolding char16
  char16_forth [] b h = no_took not_text c n h
  char16_forth (x ∷ []) b h = no_took not_text c n h
  char16_forth (x ∷ y ∷ s) b h =
      let f : ltb (length (x ∷ y ∷ s)) 2 ≡ false = le-ltb (length (x ∷ y ∷ s)) 2 (omega arith) in
      split (between 0xD800 0xDBFF (unit (x ∷ y ∷ s))) (λ e t. forth_pair x y s (b 0) (b 1) (λ i. b (suc (suc i))) e t)
      (λ e t. split (between 0xDC00 0xDFFF (unit (x ∷ y ∷ s))) (λ g u. no_took not_text c n u) (λ g u. one e g u) t)
      (rw f at h)
    where
      one : between 0xD800 0xDBFF (unit (x ∷ y ∷ s)) ≡ false → between 0xDC00 0xDFFF (unit (x ∷ y ∷ s)) ≡ false →
          took (unit (x ∷ y ∷ s)) 2 ≡ took c n → Forth utf16 (x ∷ y ∷ s) c n
      one e g u =
          let l : unit (x ∷ y ∷ s) < 0x10000 = omega (arith, b 0, b 1) in
          forth_is utf16 (x ∷ y ∷ s) (x ∷ y ∷ []) s c n (unit (x ∷ y ∷ s)) 2 refl (utf16_one (unit (x ∷ y ∷ s)) l ∙ unit-bytes x y s (b 0) (b 1)) refl
          u (outside (unit (x ∷ y ∷ s)) e g l)
