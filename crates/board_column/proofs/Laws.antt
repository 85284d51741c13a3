-- A column to be written is the record's, with the names that the numbers name.
-- Assumes nothing.
use mathlib.Core.Path.{◌≡◌, ap, ◌∙◌}
use mathlib.Core.List.{List}
use Prim.Native.Nat.{ℕ}
use Rattle.format.specs.Descriptor.{write_column}
use Rattle.column_type.specs.declared.Column.{Column}
use Rattle.column_type.specs.Told.{column_told}
use Rattle.packed.proofs.Told.{column_told_lem}
use Rattle.board_column.specs.Plain.{column_given}
use Rattle.board_column.specs.Made.{named, column_named}

pub given_is : (column names buffer : List ℕ) (c : Column) → c ≡ column_named column names → write_column (column_told buffer c) ≡ column_given column
    names buffer
given_is column names buffer c e =
    ap (λ (d : Column). write_column (column_told buffer d)) e ∙ ap write_column (column_told_lem buffer column (named names 0) (named names 2) (named names 4))
