-- A row of plain numbers to be written: columns as a packed table, values three numbers each.
use Rattle.std.specs.Prelude.{ℕ, List}
use Rattle.format.specs.Answer.{Answer}
use Rattle.format.specs.Row.{write_row}
use Rattle.packed.specs.Packed.{table_columns}
use Rattle.packed_value.specs.Numbers.{givens, no_values, unless}

-- numbers that are no values are refused before anything else, also before the row's own rules
abbrev pub row_given : List ℕ → List ℕ → List ℕ → Answer (List ℕ)
row_given table values buffer = unless (no_values values) (write_row (table_columns table) (givens buffer values))
