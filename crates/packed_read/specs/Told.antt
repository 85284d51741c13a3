-- A row read into a room and a list of numbers, in the words of `format`.
use Rattle.std.specs.Prelude.{ℕ, ◌*◌, List, ◌++◌, ltb, length, drop}
use Rattle.format.specs.Answer.{Read, took, stops, room, stop_if, read_at, fitted_read}
use Rattle.format.specs.Descriptor as D
use Rattle.format.specs.Value.{Value}
use Rattle.format.specs.Row.{read_row, copied_out_row}
use Rattle.format.specs.Found.{found_row}
use Rattle.packed_slot.specs.Slots.{slots_of}

-- A list of numbers too short for three a column is 4, last of all.
abbrev pub slotted : {A : Type 0} → ℕ → ℕ → Read A → Read A
slotted columns numbers (took v next) = stop_if (ltb numbers (3 * columns)) room (took v next)
slotted columns numbers (stops e) = stops e

-- the row, where what it copies out fits the room and its values' numbers the list
abbrev pub row_out : List D.Column → List ℕ → ℕ → ℕ → ℕ → Read (List Value)
row_out cs s at size numbers = slotted (length cs) numbers (fitted_read (copied_out_row cs) (read_at (read_row cs) s at) size)

-- the list of numbers afterwards: the values at its front, what stands behind them kept; at a refusal nothing has changed
abbrev pub values_after : List D.Column → List ℕ → ℕ → Read (List Value) → List ℕ → List ℕ
values_after cs s at (took vs next) before = slots_of (found_row cs s at 0) ++ drop (3 * length cs) before
values_after cs s at (stops e) before = before
