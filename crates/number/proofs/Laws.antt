-- The turns of the loops over a number's bytes, each for every width.
-- Assumes nothing.
use mathlib.Core.Path.{◌≡◌, refl, ap, sym, ◌∙◌}
use mathlib.Core.List.{List, [], ◌∷◌, ◌++◌}
use Prim.Native.Nat.{ℕ, suc, ◌+◌, ◌*◌, ◌-◌, ◌/◌, ◌%◌, ◌^◌, ◌<◌, ◌≤◌}
use native.Mathlib.Nat.{pow-suc, pow-le-pow_right, add-zero, add-suc, suc-add, le_refl}
use native.Mathlib.Numerals.{add-one}
use native.Mathlib.Omega.{arith}
use lib.Dec.{lit<}
use lib.ListN.{length, get_or, take, drop, set}
use lib.Seq.{drop-cons, sets, set_comm}
use Rattle.format.specs.Number.{low_nat, low_bytes, high_from, high_bytes}
use Rattle.format.proofs.Number.{length_high}

-- one byte more in front
pub low_step : (s : List ℕ) (a k : ℕ) → a < length s → low_nat (take (suc k) (drop a s)) ≡ get_or s a 0 + 256 * low_nat (take k (drop (suc a) s))
low_step s a k h = rw (drop-cons s a 0)

-- one digit more
pub digit_lt : (n b k : ℕ) → n < 256 ^ k → b < 256 → n * 256 + b < 256 ^ suc k
digit_lt n b k h g = rw (pow-suc 256 k) (omega arith)

pub pow_8 : (k : ℕ) → k ≤ 8 → 256 ^ k ≤ 2 ^ 64
pow_8 k h = pow-le-pow_right (lit< {m = 0} {n = 256} tt) h

-- what a loop over the bytes, from the last down to the first, has at its start, after a turn and at its end
pub low_turn : (s : List ℕ) (at w i n : ℕ) → 0 < i → i ≤ w → at + w ≤ length s → n ≡ low_nat (take (w - i) (drop (at + i) s))
    → n * 256 + get_or s (at + (i - 1)) 0 ≡ low_nat (take (w - (i - 1)) (drop (at + (i - 1)) s))
low_turn s at w i n p q r h =
    let e : w - (i - 1) ≡ suc (w - i) = omega arith in
    let g : suc (at + (i - 1)) ≡ at + i = omega arith in
    rw (e, low_step s (at + (i - 1)) (w - i) (omega arith), g) (omega arith)

pub low_turn_lt : (w i n b : ℕ) → 0 < i → i ≤ w → n < 256 ^ (w - i) → b < 256 → n * 256 + b < 256 ^ (w - (i - 1))
low_turn_lt w i n b p q h g =
    let e : w - (i - 1) ≡ suc (w - i) = omega arith in
    rw e (digit_lt n b (w - i) h g)

pub low_turn_fits : (w i n b : ℕ) → 0 < i → i ≤ w → w ≤ 8 → n < 256 ^ (w - i) → b < 256 → n * 256 + b < 2 ^ 64
low_turn_fits w i n b p q r h g = omega (arith, low_turn_lt w i n b p q h g, pow_8 (w - (i - 1)) (omega arith))

-- a turn of a loop that stores bytes from the first up
pub put_low_turn : (out : List ℕ) (at w i m : ℕ) → i < w
    → sets (set out (at + i) (m % 256)) (at + (i + 1)) (low_bytes (w - (i + 1)) (m / 256)) ≡ sets out (at + i) (low_bytes (w - i) m)
put_low_turn out at w i m h =
    let e : w - i ≡ suc (w - (i + 1)) = omega arith in
    let g : at + (i + 1) ≡ suc (at + i) = omega arith in
    rw (e, g)

pub high_turn : (s : List ℕ) (at w i n : ℕ) → i < w → at + w ≤ length s
    → high_from (n * 256 + get_or s (at + i) 0) (take (w - (i + 1)) (drop (at + (i + 1)) s)) ≡ high_from n (take (w - i) (drop (at + i) s))
high_turn s at w i n h r =
    let e : w - i ≡ suc (w - (i + 1)) = omega arith in
    let g : at + (i + 1) ≡ suc (at + i) = omega arith in
    rw (e, g, drop-cons s (at + i) 0 (omega arith))

pub high_turn_lt : (w i n b : ℕ) → i < w → w ≤ 8 → n < 256 ^ i → b < 256 → (n * 256 + b < 256 ^ (i + 1)) × (n * 256 + b < 2 ^ 64)
high_turn_lt w i n b p q h g =
    let z : n * 256 + b < 256 ^ (i + 1) = rw (add-one) (digit_lt n b i h g) in
    (z, omega (arith, z, pow_8 (i + 1) (omega arith)))

-- a store behind a run of stores may come first
sets_later : (l : List ℕ) (at k y : ℕ) (xs : List ℕ) → at + length xs ≤ k → sets (set l k y) at xs ≡ set (sets l at xs) k y
sets_later l at k y [] h = refl
sets_later l at k y (x ∷ xs) h =
    rw (set_comm l k at y x (λ e. omega arith)) (sets_later (set l at x) (suc at) k y xs (omega arith))

sets-snoc : (l : List ℕ) (at y : ℕ) (xs : List ℕ) → sets l at (xs ++ (y ∷ [])) ≡ set (sets l at xs) (at + length xs) y
sets-snoc l at y [] = rw add-zero
sets-snoc l at y (x ∷ xs) = sets-snoc (set l at x) (suc at) y xs ∙ rw (add-suc, suc-add)

pub put_high_turn : (out : List ℕ) (at i m : ℕ) → 0 < i
    → sets (set out (at + (i - 1)) (m % 256)) at (high_bytes (i - 1) (m / 256)) ≡ sets out at (high_bytes i m)
put_high_turn out at i m h =
    let e : i ≡ suc (i - 1) = omega arith in
    let k = i - 1 in
    sets_later out at (at + k) (m % 256) (high_bytes k (m / 256)) (rw (length_high k (m / 256)) (le_refl (at + k)))
    ∙ sym (ap (λ (j : ℕ). sets out at (high_bytes j m)) e ∙ sets-snoc out at (m % 256) (high_bytes k (m / 256)) ∙ rw (length_high k (m / 256)))
