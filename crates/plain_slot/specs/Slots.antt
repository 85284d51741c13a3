-- The three numbers of a value of one width.
use Rattle.std.specs.Prelude.{ℕ, List, [], ◌∷◌}
use Rattle.format.specs.Value.{Value}
use Rattle.packed_slot.specs.Slots.{scalar_slot}

-- null and scalars; other values have content
abbrev pub value_slot : Value → List ℕ
value_slot Value.null = 0 ∷ 0 ∷ 0 ∷ []
value_slot (Value.scalar v) = scalar_slot v
value_slot (Value.binary s) = []
value_slot (Value.string s) = []
