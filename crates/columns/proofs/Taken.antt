-- A list taken apart from the left: what is left at a place is the record there and what is left behind it.
-- Assumes nothing.
use mathlib.Core.Path.{◌≡◌, refl}
use mathlib.Core.List.{List, [], ◌∷◌}
use Prim.Native.Nat.{ℕ, zero, suc, ◌+◌, ◌<◌}
use native.Mathlib.Nat.{not-suc-le-zero, le_of_suc-le-suc}
use native.Mathlib.Numerals.{add-one}
use lib.ListN.{length, get_or, drop}

module _ {A : Type 0} (none : A) where
  left_suc : (i : ℕ) (ys : List A) → i < length ys → drop i ys ≡ get_or ys i none ∷ drop (suc i) ys
  left_suc i [] l = absurd (not-suc-le-zero l)
  left_suc zero (y ∷ ys) l = refl
  left_suc (suc i) (y ∷ ys) l = left_suc i ys (le_of_suc-le-suc l)

  pub left_at : (i : ℕ) (ys : List A) → i < length ys → drop i ys ≡ get_or ys i none ∷ drop (i + 1) ys
  left_at i ys l = rw (add-one i) (left_suc i ys l)

pub none_left : {A : Type 0} (ys : List A) → drop (length ys) ys ≡ []
none_left [] = refl
none_left (y ∷ ys) = none_left ys
