-- The column of a record, its names where six numbers say, as the code makes it: in the declared types. proofs/Laws.antt says what it tells.
use Rattle.std.specs.Prelude.{ℕ, ◌+◌, List, get_or}
use Rattle.column_type.specs.declared.Name.{Name}
use Rattle.column_type.specs.declared.Column.{Column}
use Rattle.packed.specs.Made.{column_made}

abbrev pub named : List ℕ → ℕ → Name
named n i = record { start = get_or n i 0; units = get_or n (i + 1) 0 }

abbrev pub column_named : List ℕ → List ℕ → Column
column_named r n = column_made r (named n 0) (named n 2) (named n 4)
