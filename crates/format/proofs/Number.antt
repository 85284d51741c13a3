-- Numbers as bytes, each law once over the width: reading back what was written, and writing back what was read, low byte first, high byte first
-- and in two's complement.
-- Assumes nothing.
use mathlib.Core.Path.{◌≡◌, refl, ap, sym, ◌∙◌}
use mathlib.Core.List.{List, [], ◌∷◌, ◌++◌}
use mathlib.Core.Bool.{Bool, true, false}
use Prim.Native.Nat.{ℕ, zero, suc, ◌+◌, ◌*◌, ◌-◌, ◌/◌, ◌%◌, ◌^◌, ◌<◌, ◌≤◌}
use native.Mathlib.Nat.{pow-suc, add-zero, add-suc, add-mul, mul-one, mul_assoc, mul_comm, mul-le-mul_right, pow-zero}
use native.Mathlib.Omega.{arith}
use lib.ListN.{length, get_or, length-append}
use lib.Dec.{ltb}
use lib.IntN.{ℤ, pos, negsuc}
use borrow.Author.Tests.{lt-ltb, le-ltb}
use Rattle.format.specs.Number.{low_nat, low_bytes, high_from, high_nat, high_bytes, signed, unsigned}

-- Every element is a byte.
abbrev pub Bytes : List ℕ → Type 0
Bytes l = (i : ℕ) → get_or l i 0 < 256

-- ---- low byte first

pub length-low : (w n : ℕ) → length (low_bytes w n) ≡ w
length-low zero n = refl
length-low (suc w) n = ap suc (length-low w (n / 256))

-- what is written reads back
pub low_back : (w n : ℕ) → n < 256 ^ w → low_nat (low_bytes w n) ≡ n
low_back zero n h = omega (arith, pow-zero 256)
low_back (suc w) n h =
    let g : n / 256 < 256 ^ w = omega (arith, pow-suc 256 w) in
    rw (low_back w (n / 256) g) (omega arith)

-- what was read is written again
pub low_forth : (l : List ℕ) → Bytes l → low_bytes (length l) (low_nat l) ≡ l
low_forth [] b = refl
low_forth (x ∷ xs) b =
    let h : x < 256 = b 0 in
    let e : (x + 256 * low_nat xs) % 256 ≡ x = omega arith in
    let g : (x + 256 * low_nat xs) / 256 ≡ low_nat xs = omega arith in
    rw (e, g, low_forth xs (λ i. b (suc i)))

-- the number is below the width's power
pub low-lt : (l : List ℕ) → Bytes l → low_nat l < 256 ^ length l
low-lt [] b = omega (arith, pow-zero 256)
low-lt (x ∷ xs) b = omega (arith, b 0, low-lt xs (λ i. b (suc i)), pow-suc 256 (length xs))

-- ---- high byte first

pub length_high : (w n : ℕ) → length (high_bytes w n) ≡ w
length_high zero n = refl
length_high (suc w) n = length-append (high_bytes w (n / 256)) (n % 256 ∷ []) ∙ rw (length_high w (n / 256), add-suc, add-zero)

-- a byte more behind
pub high-snoc : (a y : ℕ) (xs : List ℕ) → high_from a (xs ++ (y ∷ [])) ≡ high_from a xs * 256 + y
high-snoc a y [] = refl
high-snoc a y (x ∷ xs) = high-snoc (a * 256 + x) y xs

pub high_back : (w n : ℕ) → n < 256 ^ w → high_nat (high_bytes w n) ≡ n
high_back zero n h = omega (arith, pow-zero 256)
high_back (suc w) n h =
    let g : n / 256 < 256 ^ w = omega (arith, pow-suc 256 w) in
    high-snoc 0 (n % 256) (high_bytes w (n / 256)) ∙ rw (high_back w (n / 256) g) (omega arith)

-- bytes in front of a number: it is the number so far times the power, and what the bytes are
pub high_from_lem : (a : ℕ) (xs : List ℕ) → high_from a xs ≡ a * 256 ^ length xs + high_nat xs
high_from_lem a [] = simp (pow-zero, add-zero, mul-one)
high_from_lem a (x ∷ xs) =
    let p = 256 ^ length xs in
    let f : high_from (a * 256 + x) xs ≡ (a * 256 + x) * p + high_nat xs = high_from_lem (a * 256 + x) xs in
    let g : high_from (0 * 256 + x) xs ≡ (0 * 256 + x) * p + high_nat xs = high_from_lem (0 * 256 + x) xs in
    let d : (a * 256 + x) * p ≡ a * (256 * p) + x * p = simp (add-mul, mul_assoc) in
    let e : (0 * 256 + x) * p ≡ x * p = ap (λ (n : ℕ). n * p) (omega arith) in
    let q : 256 ^ suc (length xs) ≡ 256 * p = pow-suc 256 (length xs) ∙ mul_comm p 256 in
    let r : a * 256 ^ suc (length xs) ≡ a * (256 * p) = ap (λ (n : ℕ). a * n) q in
    omega (arith, f, g, d, e, r)

-- the number is below the width's power
pub high_lt : (l : List ℕ) → Bytes l → high_nat l < 256 ^ length l
high_lt [] b = omega (arith, pow-zero 256)
high_lt (x ∷ xs) b =
    let p = 256 ^ length xs in
    let f : high_from (0 * 256 + x) xs ≡ (0 * 256 + x) * p + high_nat xs = high_from_lem (0 * 256 + x) xs in
    let e : (0 * 256 + x) * p ≡ x * p = ap (λ (n : ℕ). n * p) (omega arith) in
    let h : x ≤ 255 = omega (arith, b 0) in
    let g : x * p ≤ 255 * p = mul-le-mul_right p h in
    omega (arith, f, e, g, high_lt xs (λ i. b (suc i)), pow-suc 256 (length xs))

-- a byte more in front
high-cons : (w x m : ℕ) → x < 256 → m < 256 ^ w → high_bytes (suc w) (x * 256 ^ w + m) ≡ x ∷ high_bytes w m
high-cons zero x m h g =
    let e : (x * 256 ^ 0 + m) % 256 ≡ x = simp (pow-zero, mul-one) (omega (arith, pow-zero 256)) in
    rw e
high-cons (suc w) x m h g =
    let p = 256 ^ w in
    let q : 256 ^ suc w ≡ 256 * p = pow-suc 256 w ∙ mul_comm p 256 in
    let r : x * 256 ^ suc w ≡ 256 * (x * p) =
    ap (λ (n : ℕ). x * n) q ∙ (sym (mul_assoc x 256 p) ∙ (ap (λ (n : ℕ). n * p) (mul_comm x 256) ∙ mul_assoc 256 x p)) in
    let d : (x * 256 ^ suc w + m) / 256 ≡ x * p + m / 256 = omega (arith, r) in
    let e : (x * 256 ^ suc w + m) % 256 ≡ m % 256 = omega (arith, r) in
    let l : m / 256 < p = omega (arith, q) in
    rw (d, e, high-cons w x (m / 256) h l)

pub high_forth : (l : List ℕ) → Bytes l → high_bytes (length l) (high_nat l) ≡ l
high_forth [] b = refl
high_forth (x ∷ xs) b =
    let f : high_from (0 * 256 + x) xs ≡ (0 * 256 + x) * 256 ^ length xs + high_nat xs = high_from_lem (0 * 256 + x) xs in
    let e : 0 * 256 + x ≡ x = omega arith in
    let g : high_nat (x ∷ xs) ≡ x * 256 ^ length xs + high_nat xs = f ∙ ap (λ (n : ℕ). n * 256 ^ length xs + high_nat xs) e in
    let t : Bytes xs = λ i. b (suc i) in
    ap (high_bytes (suc (length xs))) g
    ∙ (high-cons (length xs) x (high_nat xs) (b 0) (high_lt xs t) ∙ ap (◌∷◌ x) (high_forth xs t))

-- ---- two's complement

-- the range of a whole number has two halves
pub half : (w : ℕ) → 0 < w → 256 ^ w / 2 + 256 ^ w / 2 ≡ 256 ^ w
half zero h = absurd (omega arith)
half (suc w) h = rw (pow-suc 256 w) (omega arith)

-- a whole number of w bytes
abbrev pub Signed : ℕ → ℤ → Type 0
Signed w (pos n) = n < 256 ^ w / 2
Signed w (negsuc k) = k < 256 ^ w / 2

pub signed_back : (w : ℕ) (z : ℤ) → 0 < w → Signed w z → signed w (unsigned w z) ≡ z
unfolding signed unsigned
signed_back w (pos n) p h = rw (lt-ltb _ _ h)
signed_back w (negsuc k) p h =
    let g = half w p in
    let e : 256 ^ w - suc (unsigned w (negsuc k)) ≡ k = omega arith in
    let l : 256 ^ w / 2 ≤ unsigned w (negsuc k) = omega arith in
    rw (le-ltb _ _ l, e)

pub signed_forth : (w n : ℕ) → 0 < w → n < 256 ^ w → unsigned w (signed w n) ≡ n
unfolding signed unsigned
signed_forth w n p h = go (ltb n (256 ^ w / 2)) refl
  where
    go : (b : Bool) → ltb n (256 ^ w / 2) ≡ b → unsigned w (signed w n) ≡ n
    go true e = rw e
    go false e = rw e (omega arith)
