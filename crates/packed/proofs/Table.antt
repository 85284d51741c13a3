-- A table taken apart: a column that it has begins inside it, and is the list's at that place.
-- Assumes nothing.
use mathlib.Core.Path.{◌≡◌, subst}
use mathlib.Core.List.{List}
use Prim.Native.Nat.{ℕ, ◌*◌, ◌<◌}
use native.Mathlib.Omega.{arith}
use lib.ListN.{length, get_or, drop}
use Rattle.columns.specs.None.{no_column}
use Rattle.packed.specs.Each.{parts_of}
use Rattle.packed.specs.Made.{column_made, no_name, table_made}
use Rattle.packed.proofs.Each.{length-each, each_at, part-inside}

module _ (t : List ℕ) where
  -- as many columns as records
  pub columns-counted : length (table_made t) ≡ parts_of 16 (length t)
  columns-counted = length-each 16 (λ r. column_made r no_name no_name no_name) t

  module _ (i : ℕ) (l : i < length (table_made t)) where
    abbrev counted : i < parts_of 16 (length t)
    counted = subst (λ (n : ℕ). i < n) columns-counted l

    pub column_there : 16 * i < length t
    column_there = part-inside 16 i (length t) (omega arith) counted

    pub column_made_lem : column_made (drop (16 * i) t) no_name no_name no_name ≡ get_or (table_made t) i no_column
    column_made_lem = each_at 16 (λ r. column_made r no_name no_name no_name) no_column i t counted
