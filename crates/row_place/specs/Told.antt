-- What this crate's declared types tell, in the words of `format`: a value by where its content stands, and the place behind it.
use Rattle.std.specs.Prelude.{Err, Ok, Result}
use Rattle.std.specs.Prelude.{ℕ, ◌+◌, ◌-◌, List, length}
use Rattle.format.specs.Answer.{Read, took, stops, map_read, read_at, fitted_read}
use Rattle.format.specs.Descriptor as D
use Rattle.format.specs.Value.{Value, read_value, copied_out}
use Rattle.format.specs.Found as F
use Rattle.wire.specs.Told.{refusal_told}
use Rattle.value_found.specs.Told.{found_told, CanonicalFound, behind}
use Rattle.value_found.specs.declared.Found.{Found}
use Rattle.wire.specs.declared.Refusal.{Refusal}
use Rattle.row_place.specs.declared.RowPlace.{RowPlace}

-- a value that was found, and the content bytes copied out up to the next one
pub record Placed : Type 0 where
  pub found : F.Found
  pub copied : ℕ

abbrev pub placed_of : D.Column → ℕ → ℕ → Value → Placed
placed_of c at copied v = record { found = F.found_of c at copied v; copied = copied + length (copied_out c v) }

-- what was found, and the next place
abbrev pub row_value_told : Result (Found × RowPlace) Refusal → Read Placed
row_value_told (Ok (f, p)) = took (record { found = found_told f; copied = p.copied }) p.cursor.at
row_value_told (Err e) = stops (refusal_told e)

-- a scalar that was found is the canonical one
abbrev pub CanonicalPlaced : Result (Found × RowPlace) Refusal → Type 0
CanonicalPlaced (Ok (f, p)) = CanonicalFound f
CanonicalPlaced (Err e) = Unit {0}

-- ---- the value of a column at a place: "4: the whole output is longer than the room lent", and no room has more bytes than this

abbrev pub most_room : ℕ
most_room = 18446744073709551615

abbrev pub placed_at : D.Column → List ℕ → ℕ → ℕ → Read Placed
placed_at c s at copied = map_read (placed_of c at copied) (fitted_read (copied_out c) (read_at (read_value c) s at) (most_room - copied))

-- the same of what was read of the rest of the input from the place on
abbrev pub placed_behind : D.Column → Read Value → ℕ → ℕ → Read Placed
placed_behind c r at copied = map_read (placed_of c at copied) (behind c r at (most_room - copied))
