-- Rows both ways: document 01, "The refusals", "Walking and joining". A row is "the values of a column list, one after another, no token byte".
use Rattle.std.specs.Prelude.{ℕ, zero, suc, List, [], ◌∷◌, ◌++◌, not, length, ltb, eqb}
use Rattle.format.specs.Answer.{Answer, gives, refuses, Read, took, rule, refuse_if, stop_if, then_read, map_read, and_then}
use Rattle.format.specs.Number.{read_low}
use Rattle.format.specs.Descriptor.{Column, read_column}
use Rattle.format.specs.Value.{Value, Given, read_value, write_value, copied_out}

-- "A lent list of descriptor records, 0 to 1,024 (more: 6)."
abbrev pub max_columns : ℕ
max_columns = 1024

-- ---- reading

-- "Takes each column in turn from the left, all its checks but 4 before the next column's."
abbrev pub cons_read : {A : Type 0} → (List ℕ → Read (List A)) → A → List ℕ → Read (List A)
cons_read rest v s = map_read (◌∷◌ v) (rest s)

unfoldable pub read_values : List Column → List ℕ → Read (List Value)
read_values [] s = took [] 0
read_values (c ∷ cs) s = then_read (read_value c) (cons_read (read_values cs)) s

-- "A row checks the number of columns", then the columns.
unfoldable pub read_row : List Column → List ℕ → Read (List Value)
read_row cs s = stop_if (ltb max_columns (length cs)) rule (read_values cs s)

-- What the PLP values of a row that was read need of the room, in column order without gaps.
unfoldable pub copied_out_row : List Column → List Value → List ℕ
copied_out_row [] vs = []
copied_out_row (c ∷ cs) [] = []
copied_out_row (c ∷ cs) (v ∷ vs) = copied_out c v ++ copied_out_row cs vs

-- ---- writing

abbrev pub join_two : Answer (List ℕ) → List ℕ → Answer (List ℕ)
join_two (gives rest) bytes = gives (bytes ++ rest)
join_two (refuses e) bytes = refuses e

unfoldable pub write_values : List Column → List Given → Answer (List ℕ)
write_values [] vs = gives []
write_values (c ∷ cs) [] = gives []
write_values (c ∷ cs) (v ∷ vs) = and_then (write_value c v) (join_two (write_values cs vs))

-- "A row checks the number of columns (in writing also 6 unless there are as many values)."
unfoldable pub write_row : List Column → List Given → Answer (List ℕ)
write_row cs vs =
    refuse_if (ltb max_columns (length cs)) rule
    (refuse_if (not (eqb (length cs) (length vs))) rule
    (write_values cs vs))

-- ---- a capture: "column count in two bytes, low first, descriptors, then a row"

pub record Capture : Type 0 where
  pub columns : List Column
  pub values : List Value

unfoldable pub read_columns : ℕ → List ℕ → Read (List Column)
read_columns zero s = took [] 0
read_columns (suc n) s = then_read read_column (cons_read (read_columns n)) s

abbrev pub captured : List Column → List Value → Capture
captured cs vs = record { columns = cs; values = vs }

abbrev pub read_captured : List Column → List ℕ → Read Capture
read_captured cs s = map_read (captured cs) (read_row cs s)

abbrev pub read_counted : ℕ → List ℕ → Read Capture
read_counted n s = stop_if (ltb max_columns n) rule (then_read (read_columns n) read_captured s)

unfoldable pub read_capture : List ℕ → Read Capture
read_capture s = then_read (read_low 2) read_counted s
