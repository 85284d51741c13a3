-- Rows of what a program holds itself, in arrays of 1,024 places with a count: the first `count` records of each array are the list.
use Rattle.std.specs.Prelude.{ℕ, Bool, List, ltb, take}
use Rattle.format.specs.Answer.{Answer, rule, refuse_if}
use Rattle.format.specs.Row.{max_columns, write_row}
use Rattle.column_type.specs.declared.Column.{Column}
use Rattle.value_kind.specs.declared.Value.{Value}
use Rattle.columns.specs.Told.{columns_told, values_told}

-- "A lent list of descriptor records, 0 to 1,024 (more: 6)": a count above the places of the array is refusal 6, whatever stands in them.
abbrev pub too_many : ℕ → Bool
too_many count = ltb max_columns count

abbrev pub counted : {A : Type 0} → ℕ → Answer A → Answer A
counted count answer = refuse_if (too_many count) rule answer

-- the row of the first columns and the first values, content parts of the lent buffer
abbrev pub first_row : List ℕ → List Column → ℕ → List Value → ℕ → Answer (List ℕ)
first_row buffer cols count values given = write_row (columns_told buffer (take count cols)) (values_told buffer (take given values))

-- the row to be written
abbrev pub write_held : List ℕ → List Column → ℕ → List Value → ℕ → Answer (List ℕ)
write_held buffer cols count values given = counted count (counted given (first_row buffer cols count values given))
