-- What this crate's declared types tell, in the words of `format`: what was read, and the next place.
use Rattle.std.specs.Prelude.{Err, None, Ok, Option, Result, Some}
use Rattle.std.specs.Prelude.{ℕ, ◌<◌, List}
use Rattle.format.specs.Answer.{Read, took, stops}
use Rattle.format.specs.Header as H
use Rattle.format.specs.Descriptor as D
use Rattle.format.specs.Plp as P
use Rattle.format.specs.Found as F
use Rattle.wire.specs.Told.{refusal_told}
use Rattle.header.specs.Told.{header_fields}
use Rattle.column_type.specs.Told.{column_told, SchemaFrom}
use Rattle.plp.specs.Told.{walk_told}
use Rattle.value_found.specs.Told.{found_told, CanonicalFound}
use Rattle.cursor.specs.declared.Opened.{Opened}
use Rattle.cursor.specs.declared.Opened.TheVariants as O
use Rattle.wire.specs.declared.Refusal.{Refusal}
use Rattle.value_found.specs.declared.Found.{Found}
use Rattle.cursor.specs.declared.Cursor.{Cursor}
use Rattle.header.specs.declared.Header.{Header}
use Rattle.column_type.specs.declared.Column.{Column}

-- what was read, and the next place
abbrev pub read_told : {A : Type 0} → Result (A × Cursor) Refusal → Read A
read_told (Ok (v, next)) = took v next.at
read_told (Err e) = stops (refusal_told e)

-- a number that was read lies below a bound
abbrev pub NumberBelow : ℕ → Result (ℕ × Cursor) Refusal → Type 0
NumberBelow b (Ok (n, next)) = n < b
NumberBelow b (Err e) = Unit {0}

abbrev pub header_told : Result (Header × Cursor) Refusal → Read H.Header
header_told (Ok (h, next)) = took (header_fields h) next.at
header_told (Err e) = stops (refusal_told e)

abbrev pub column_read_told : List ℕ → Result (Column × Cursor) Refusal → Read D.Column
column_read_told s (Ok (c, next)) = took (column_told s c) next.at
column_read_told s (Err e) = stops (refusal_told e)

-- the names of a column that was read start at a place
abbrev pub NamesFrom : List ℕ → ℕ → Result (Column × Cursor) Refusal → Type 0
NamesFrom s place (Ok (c, next)) = SchemaFrom s place c.schema
NamesFrom s place (Err e) = Unit {0}

abbrev pub value_read_told : Result (Found × Cursor) Refusal → Read F.Found
value_read_told (Ok (f, next)) = took (found_told f) next.at
value_read_told (Err e) = stops (refusal_told e)

-- a scalar that was read is the canonical one
abbrev pub CanonicalRead : Result (Found × Cursor) Refusal → Type 0
CanonicalRead (Ok (f, next)) = CanonicalFound f
CanonicalRead (Err e) = Unit {0}

-- the next place of a walk that was opened is its own
abbrev pub opened_told : Result Opened Refusal → Read (Option P.Walk)
opened_told (Ok (O.Walk w)) = took (Some (walk_told w)) w.at
opened_told (Ok (O.Null next)) = took None next.at
opened_told (Err e) = stops (refusal_told e)

-- content by its count, since its bytes stand in the room
abbrev pub joined_told : Result (Option ℕ × Cursor) Refusal → Read (Option ℕ)
joined_told (Ok (None, next)) = took None next.at
joined_told (Ok (Some n, next)) = took (Some n) next.at
joined_told (Err e) = stops (refusal_told e)
