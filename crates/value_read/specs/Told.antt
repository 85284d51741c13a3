-- What the calls of this crate are said to answer, in the words of `format`.
use Rattle.std.specs.Prelude.{ℕ, List, length}
use Rattle.format.specs.Answer.{Read, map_read, read_at, fitted_read, room_after_read}
use Rattle.format.specs.Descriptor as D
use Rattle.format.specs.Value.{Value, read_value, copied_out}
use Rattle.format.specs.Found as F

-- a value of a column at a place of the input, with a room of so many bytes; and the room afterwards

abbrev pub read_out : D.Column → List ℕ → ℕ → ℕ → Read Value
read_out c s at size = fitted_read (copied_out c) (read_at (read_value c) s at) size

abbrev pub found_out : D.Column → List ℕ → ℕ → List ℕ → Read F.Found
found_out c s at out = map_read (F.found_of c at 0) (read_out c s at (length out))

abbrev pub room_out : D.Column → List ℕ → ℕ → List ℕ → List ℕ
room_out c s at out = room_after_read (copied_out c) (read_out c s at (length out)) out
