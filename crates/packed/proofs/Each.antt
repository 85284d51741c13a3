-- A list cut into parts: how many there are, what the part at a place stands for, and that what they stand for may be turned into something else one by one.
-- Assumes nothing.
use mathlib.Core.Path.{◌≡◌, refl, sym, ap, ◌∙◌}
use mathlib.Core.List.{List, map}
use Prim.Native.Nat.{ℕ, zero, suc, ◌+◌, ◌*◌, ◌-◌, ◌<◌, ◌≤◌}
use native.Mathlib.Omega.{arith}
use native.Mathlib.Nat.{not-suc-le-zero, le_of_suc-le-suc, mul-zero, mul-suc, add_comm, mul_comm, suc-mul, mul-le-mul_right, div-mul-le_self}
use lib.ListN.{length, get_or, drop}
use lib.Seq.{drop-drop}
use Rattle.packed.specs.Each.{parts_of, each_of, each}

module _ {A : Type 0} (w : ℕ) (f : List ℕ → A) where
  length_of : (n : ℕ) (xs : List ℕ) → length (each_of w f n xs) ≡ n
  length_of zero xs = refl
  length_of (suc n) xs = ap suc (length_of n (drop w xs))

  pub length-each : (xs : List ℕ) → length (each w f xs) ≡ parts_of w (length xs)
  unfolding each
  length-each xs = length_of (parts_of w (length xs)) xs

  at_of : (none : A) (n i : ℕ) (xs : List ℕ) → i < n → f (drop (w * i) xs) ≡ get_or (each_of w f n xs) i none
  at_of none zero i xs l = absurd (not-suc-le-zero l)
  at_of none (suc n) zero xs l = rw (mul-zero w) refl
  at_of none (suc n) (suc i) xs l =
      rw (mul-suc w i, add_comm (w * i) w)
      (ap f (sym (drop-drop (w * i) w xs)) ∙ at_of none n i (drop w xs) (le_of_suc-le-suc l))

  -- the part at i, from the left
  pub each_at : (none : A) (i : ℕ) (xs : List ℕ) → i < parts_of w (length xs) → f (drop (w * i) xs) ≡ get_or (each w f xs) i none
  unfolding each
  each_at none i xs l = at_of none (parts_of w (length xs)) i xs l

-- each part's meaning, turned into another
module _ {A B : Type 0} (w : ℕ) (f : List ℕ → A) (g : A → B) (h : List ℕ → B) (e : (xs : List ℕ) → g (f xs) ≡ h xs) where
  map_of : (n : ℕ) (xs : List ℕ) → map g (each_of w f n xs) ≡ each_of w h n xs
  map_of zero xs = refl
  map_of (suc n) xs = rw (e xs, map_of n (drop w xs)) refl

  pub map_each : (xs : List ℕ) → map g (each w f xs) ≡ each w h xs
  unfolding each
  map_each xs = map_of (parts_of w (length xs)) xs

-- a part that there is begins inside the list
pub part-inside : (w i n : ℕ) → 0 < w → i < parts_of w n → w * i < n
part-inside w i n p l =
    let some : suc i * w ≤ parts_of w n * w = mul-le-mul_right w l in
    let all : parts_of w n * w ≤ n + (w - 1) = div-mul-le_self (n + (w - 1)) w in
    rw (mul_comm w i) (omega (arith, p, some, all, suc-mul i w))
