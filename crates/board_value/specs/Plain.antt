-- Values as three numbers, under a column as a record of 16 bytes. A value does not ask for the column's names.
use Rattle.std.specs.Prelude.{ℕ, List}
use Rattle.format.specs.Answer.{Answer, Read, map_read}
use Rattle.format.specs.Value.{write_value}
use Rattle.value_read.specs.Told.{found_out, room_out}
use Rattle.packed.specs.Packed.{column_of, no_names}
use Rattle.packed_slot.specs.Slots.{slot_of}
use Rattle.packed_value.specs.Numbers.{given, no_value, unless}

-- ---- written: numbers that are no value are 3 before anything else

abbrev pub value_given : List ℕ → List ℕ → List ℕ → Answer (List ℕ)
value_given column value buffer = unless (no_value value) (write_value (column_of column no_names) (given buffer value))

-- ---- read: the three numbers of the value at a place of the row, with a room; and the room afterwards

abbrev pub value_at : List ℕ → List ℕ → ℕ → List ℕ → Read (List ℕ)
value_at column s at room = map_read slot_of (found_out (column_of column no_names) s at room)

abbrev pub room_at : List ℕ → List ℕ → ℕ → List ℕ → List ℕ
room_at column s at room = room_out (column_of column no_names) s at room
