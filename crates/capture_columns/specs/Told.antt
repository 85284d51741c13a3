-- What the columns of a capture tell, in the words of `format`; and where their reading stops.
use Rattle.std.specs.Prelude.{ℕ, zero, suc, ◌+◌, ◌≡◌, List, map, ltb, take, Result, Ok, Err}
use Rattle.lists.specs.Pick.{pick}
use Rattle.format.specs.Answer.{Read, took, stops, read_at}
use Rattle.format.specs.Descriptor as D
use Rattle.format.specs.Row.{max_columns}
use Rattle.wire.specs.Told.{refusal_told}
use Rattle.column_type.specs.Told.{column_told}
use Rattle.capture_columns.specs.declared.CaptureColumns.{CaptureColumns}
use Rattle.capture_columns.specs.declared.ColumnRefused.{ColumnRefused}

-- the columns read: the first of the list
abbrev pub columns_read_told : List ℕ → ℕ → Result CaptureColumns ColumnRefused → Read (List D.Column)
columns_read_told s count (Ok c) = took (map (column_told s) (take count c.list)) c.end.at
columns_read_told s count (Err e) = stops (refusal_told e.refusal)

-- How many columns are read from a place on before one is refused, and where that one begins.
pub record Stop : Type 0 where
  pub columns : ℕ
  pub place : ℕ

abbrev pub stop_behind : ℕ → ℕ → (ℕ → ℕ → Stop) → Read D.Column → Stop
stop_behind k at rest (took c next) = rest (k + 1) next
stop_behind k at rest (stops e) = record { columns = k; place = at }

unfoldable pub stop_of : ℕ → List ℕ → ℕ → ℕ → Stop
stop_of zero s k at = record { columns = k; place = at }
stop_of (suc n) s k at = stop_behind k at (stop_of n s) (read_at D.read_column s at)

-- The number of columns is judged before the first: above 1,024 none is read, and the place is the one passed.
abbrev pub stop_at : ℕ → List ℕ → ℕ → Stop
stop_at count s at = pick (ltb max_columns count) (record { columns = 0; place = at }) (stop_of count s 0 at)

-- a refusal says where it arose
abbrev pub StopsAt : List ℕ → ℕ → ℕ → Result CaptureColumns ColumnRefused → Type 0
StopsAt s count at (Ok c) = Unit {0}
StopsAt s count at (Err e) = record { columns = e.before; place = e.at.at } ≡ stop_at count s at
