-- Where content stands that was read: document 01, "Walking and joining".
use Rattle.std.specs.Prelude.{ℕ, ◌+◌, List, [], ◌∷◌, length}
use Rattle.lists.specs.Pick.{pick}
use Rattle.format.specs.Answer.{Read, took, stops, read_at, Part, inside, outside, part}
use Rattle.format.specs.Descriptor.{Column}
use Rattle.format.specs.Scalar.{Scalar}
use Rattle.format.specs.Value.{Value, read_value, is_plp, copied_out}

-- A part of the input or of the room: where it starts, and how many bytes it has. A start in the input is counted in the whole input handed to the call.
pub data Stand : Type 0 where
  in_input : ℕ → ℕ → Stand
  in_room : ℕ → ℕ → Stand

-- A value that was read, its content by where it stands. "A read string is its UTF-16LE bytes."
pub data Found : Type 0 where
  null : Found
  scalar : Scalar → Found
  binary : Stand → Found
  string : Stand → Found

-- "Content that isn't PLP is handed back as that part of the caller's own bytes": behind the two length bytes at the value's place. "PLP content is the
-- chunks joined, copied out", "each column writes into the unused rest of the same output": behind what was copied before it.
abbrev pub stand_of : Column → ℕ → ℕ → List ℕ → Stand
stand_of c at copied content = pick (is_plp c) (in_room copied (length content)) (in_input (at + 2) (length content))

abbrev pub found_of : Column → ℕ → ℕ → Value → Found
found_of c at copied Value.null = Found.null
found_of c at copied (Value.scalar v) = Found.scalar v
found_of c at copied (Value.binary s) = Found.binary (stand_of c at copied s)
found_of c at copied (Value.string s) = Found.string (stand_of c at copied s)

-- "Takes each column in turn from the left": each column at its own place, with what was copied before it.
abbrev pub found_next : Column → ℕ → ℕ → (ℕ → ℕ → List Found) → Read Value → List Found
found_next c at copied rest (took v next) = found_of c at copied v ∷ rest next (copied + length (copied_out c v))
found_next c at copied rest (stops e) = []

unfoldable pub found_row : List Column → List ℕ → ℕ → ℕ → List Found
found_row [] s at copied = []
found_row (c ∷ cs) s at copied = found_next c at copied (found_row cs s) (read_at (read_value c) s at)

-- "Handed back as that part of the caller's own bytes (the empty part where a span leaves them)."
abbrev pub part_or_empty : Part → List ℕ
part_or_empty (inside s) = s
part_or_empty outside = []

unfoldable pub handed_back : List ℕ → ℕ → ℕ → List ℕ
handed_back s start count = part_or_empty (part s start count)
