-- The bytes of a character stored one after another are the character put at the place.
-- Assumes nothing.
use mathlib.Core.Path.{◌≡◌}
use mathlib.Core.List.{List, [], ◌∷◌}
use Prim.Native.Nat.{ℕ, ◌+◌, ◌≤◌}
use native.Mathlib.Numerals.{add-one, add-two, add-three}
use lib.ListN.{length, set}
use lib.Seq.{sets}
use Rattle.lists.specs.Put.{put_at}
use Rattle.lists.proofs.Front.{sets_put}

-- a run of stores of a list that is another's name
pub stored : (out l b : List ℕ) (o : ℕ) → b ≡ l → o + length b ≤ length out → sets out o l ≡ put_at out o b
stored out l b o e h = rw e (sets_put out o l (rw (← e) h))

module _ (out : List ℕ) (o x y : ℕ) where
  pub sets_two : set (set out o x) (o + 1) y ≡ sets out o (x ∷ y ∷ [])
  sets_two = rw (add-one o)

  pub sets_three : (z : ℕ) → set (set (set out o x) (o + 1) y) (o + 2) z ≡ sets out o (x ∷ y ∷ z ∷ [])
  sets_three z = rw (add-one o, add-two o)

  pub sets_four : (z w : ℕ) → set (set (set (set out o x) (o + 1) y) (o + 2) z) (o + 3) w ≡ sets out o (x ∷ y ∷ z ∷ w ∷ [])
  sets_four z w = rw (add-one o, add-two o, add-three o)
