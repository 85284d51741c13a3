-- What this crate's declared type tells, in the words of `format`: how many bytes the normal form has, and where the row ends.
use Rattle.std.specs.Prelude.{Err, Ok, Result}
use Rattle.std.specs.Prelude.{ℕ}
use Rattle.format.specs.Answer.{Read, took, stops}
use Rattle.wire.specs.Told.{refusal_told}
use Rattle.cursor.specs.declared.Cursor.{Cursor}
use Rattle.wire.specs.declared.Refusal.{Refusal}

abbrev pub normal_told : Result (ℕ × Cursor) Refusal → Read ℕ
normal_told (Ok (n, c)) = took n c.at
normal_told (Err e) = stops (refusal_told e)
