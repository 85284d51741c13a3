-- The two orders of a GUID: one undoes the other, whatever the bytes.
-- Assumes nothing.
use mathlib.Core.Path.{◌≡◌, refl}
use mathlib.Core.List.{List, [], ◌∷◌}
use Prim.Native.Nat.{ℕ}
use Rattle.format.specs.Guid.{guid_order}

-- text order to wire order to text order, and the other way round
pub guid_back_lem : (s : List ℕ) → guid_order (guid_order s) ≡ s
unfolding guid_order
guid_back_lem [] = refl
guid_back_lem (a ∷ []) = refl
guid_back_lem (a ∷ b ∷ []) = refl
guid_back_lem (a ∷ b ∷ c ∷ []) = refl
guid_back_lem (a ∷ b ∷ c ∷ d ∷ []) = refl
guid_back_lem (a ∷ b ∷ c ∷ d ∷ e ∷ []) = refl
guid_back_lem (a ∷ b ∷ c ∷ d ∷ e ∷ f ∷ []) = refl
guid_back_lem (a ∷ b ∷ c ∷ d ∷ e ∷ f ∷ g ∷ []) = refl
guid_back_lem (a ∷ b ∷ c ∷ d ∷ e ∷ f ∷ g ∷ h ∷ rest) = refl
