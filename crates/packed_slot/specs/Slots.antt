-- A value that was found as three numbers, for callers in other languages: its kind's, and two more. packed_value/specs/Numbers.antt has the same of a value
-- to be written.
use Rattle.std.specs.Prelude.{ℕ, List, [], ◌∷◌, ◌++◌, take, drop}
use Rattle.lists.specs.Pick.{pick}
use Rattle.format.specs.Number.{unsigned, high_nat}
use Rattle.format.specs.Scalar.{Scalar}
use Rattle.format.specs.Found.{Stand, in_input, in_room, Found}
use Rattle.packed_value.specs.declared.Slot.{Slot}

-- integers in 64 bits, two's complement; floats by their bits; a GUID by its two halves in text order
abbrev pub scalar_slot : Scalar → List ℕ
scalar_slot (Scalar.bit b) = 1 ∷ pick b 1 0 ∷ 0 ∷ []
scalar_slot (Scalar.u8 n) = 2 ∷ n ∷ 0 ∷ []
scalar_slot (Scalar.i16 z) = 3 ∷ unsigned 8 z ∷ 0 ∷ []
scalar_slot (Scalar.i32 z) = 4 ∷ unsigned 8 z ∷ 0 ∷ []
scalar_slot (Scalar.i64 z) = 5 ∷ unsigned 8 z ∷ 0 ∷ []
scalar_slot (Scalar.f32 n) = 6 ∷ n ∷ 0 ∷ []
scalar_slot (Scalar.f64 n) = 7 ∷ n ∷ 0 ∷ []
scalar_slot (Scalar.guid s) = 8 ∷ high_nat (take 8 s) ∷ high_nat (drop 8 s) ∷ []

-- content by start and count, in the row or in the room
abbrev pub content_slot : Stand → ℕ → ℕ → List ℕ
content_slot (in_input start count) row room = row ∷ start ∷ count ∷ []
content_slot (in_room start count) row room = room ∷ start ∷ count ∷ []

abbrev pub slot_of : Found → List ℕ
slot_of Found.null = 0 ∷ 0 ∷ 0 ∷ []
slot_of (Found.scalar v) = scalar_slot v
slot_of (Found.binary p) = content_slot p 9 11
slot_of (Found.string p) = content_slot p 10 12

-- the values of a row, one behind another
abbrev pub slots_of : List Found → List ℕ
slots_of [] = []
slots_of (f ∷ fs) = slot_of f ++ slots_of fs

-- what the declared struct tells
abbrev pub slot_told : Slot → List ℕ
slot_told s = s.kind ∷ s.first ∷ s.second ∷ []
