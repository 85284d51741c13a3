-- Rows read under columns that a program holds itself, in an array of 1,024 places with a count: the first `count` columns are the list.
use Rattle.std.specs.Prelude.{ℕ, List, take}
use Rattle.format.specs.Answer.{Read, rule, stop_if}
use Rattle.format.specs.Descriptor as D
use Rattle.column_type.specs.declared.Column.{Column}
use Rattle.columns.specs.Told.{columns_told}
use Rattle.held.specs.Held.{too_many}

-- the first columns, their names parts of the lent buffer
abbrev pub first_columns : List ℕ → List Column → ℕ → List D.Column
first_columns b cols count = columns_told b (take count cols)

-- A count above the places of the array is refusal 6, whatever stands in them. It is asked where a row's columns are counted: behind the place.
abbrev pub counted_read : {A : Type 0} → ℕ → (List ℕ → Read A) → List ℕ → Read A
counted_read count reader s = stop_if (too_many count) rule (reader s)
