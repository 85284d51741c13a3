-- The normal form of a row: document 01, "Walking and joining", last sentence.
use Rattle.std.specs.Prelude.{ℕ, List, [], ◌∷◌, ◌++◌}
use Rattle.format.specs.Answer.{Read, map_read}
use Rattle.format.specs.Descriptor.{Column}
use Rattle.format.specs.Value.{Value, encode}
use Rattle.format.specs.Row.{read_row}

-- "The writer's form for the values read, string units copied as they came."
unfoldable pub encode_row : List Column → List Value → List ℕ
encode_row [] vs = []
encode_row (c ∷ cs) [] = []
encode_row (c ∷ cs) (v ∷ vs) = encode c v ++ encode_row cs vs

-- The normal form of the row that an input begins with, and how many bytes that row took.
unfoldable pub normal : List Column → List ℕ → Read (List ℕ)
normal cs s = map_read (encode_row cs) (read_row cs s)
