-- What a place in a row and this crate's declared type tell: the first value's place, and where the row ends.
use Rattle.std.specs.Prelude.{Err, Ok, Result}
use Rattle.std.specs.Prelude.{ℕ}
use Rattle.format.specs.Answer.{Read, took, stops}
use Rattle.wire.specs.Told.{refusal_told}
use Rattle.row_place.specs.declared.RowPlace.{RowPlace}
use Rattle.cursor.specs.declared.Cursor.{Cursor}
use Rattle.wire.specs.declared.Refusal.{Refusal}

-- where a value stands in the input, and how many content bytes were copied out before it
pub record Place : Type 0 where
  pub at : ℕ
  pub copied : ℕ

abbrev pub place_told : RowPlace → Place
place_told p = record { at = p.cursor.at; copied = p.copied }

-- "Takes each column in turn from the left": the first value stands where the row does, and nothing was copied out before it.
abbrev pub first_place : ℕ → Place
first_place at = record { at = at; copied = 0 }

abbrev pub row_read_told : Result (RowPlace × Cursor) Refusal → Read Place
row_read_told (Ok (p, c)) = took (place_told p) c.at
row_read_told (Err e) = stops (refusal_told e)
