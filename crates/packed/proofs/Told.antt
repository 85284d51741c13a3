-- What a column that was made of a record tells: the column that packs to it, its names the parts of a buffer that the given spans name.
-- Assumes nothing.
use Rattle.std.specs.Prelude.{None, Some}
use mathlib.Core.Path.{◌≡◌, refl, ap, ◌∙◌}
use mathlib.Core.Bool.{Bool, true, false}
use mathlib.Core.List.{List, []}
use Prim.Native.Nat.{ℕ, zero-le}
use lib.ListN.{length, get_or}
use borrow.Author.Tests.{le-ltb}
use Rattle.lists.specs.Pick.{pick}
use Rattle.format.specs.Answer.{Answer, gives, refuses, inside, part}
use Rattle.format.specs.Descriptor as D
use Rattle.column_type.specs.declared.Name.{Name}
use Rattle.column_type.specs.Told.{collation_told, name_told, schema_told, column_told, schema_of}
use Rattle.column_type.proofs.Back.{type_told_lem}
use Rattle.columns.specs.Told.{columns_told}
use Rattle.packed.specs.Packed.{info_at, flags_at, has_collation, has_schema, keeps_places, collation_at, schema_at, broken_column, typed_as, column_of}
use Rattle.packed.specs.Packed.{no_names, table_columns}
use Rattle.packed.specs.Made.{collation_made, schema_made, broken_made, typed_made, column_made, no_name, table_made}
use Rattle.packed.proofs.Each.{map_each}

module _ (s r : List ℕ) (a b c : Name) where
  -- the names that the spans tell
  abbrev pub names : D.Schema
  names = record { database = name_told s a; owner = name_told s b; collection = name_told s c }

  collation : collation_told (collation_made r) ≡ collation_at r
  collation = go (has_collation (flags_at r))
    where
      go : (h : Bool)
          → collation_told (pick h (Some (record { info = info_at r; sort = get_or r 12 0 })) None) ≡ pick h (Some (record {
            info = info_at
                r;
            sort = get_or r 12 0;
          })) None
      go true = refl
      go false = refl

  schema : schema_told s (schema_made (flags_at r) a b c) ≡ schema_at r names
  schema = go (has_schema (flags_at r))
    where
      go : (h : Bool) → schema_told s (pick h (Some (schema_of a b c)) None) ≡ pick h (Some names) None
      go true = refl
      go false = refl

  typed : (t : Answer D.TypeId) → column_told s (typed_made t r a b c) ≡ typed_as t r names
  typed (gives t) = rw (type_told_lem t, collation, schema)
  typed (refuses e) = refl

  pub column_told_lem : column_told s (column_made r a b c) ≡ column_of r names
  unfolding column_made column_of
  column_told_lem = go (keeps_places r)
    where
      go : (k : Bool)
          → column_told s (pick k (typed_made (D.type_of (get_or r 0 0)) r a b c) broken_made) ≡ pick k (typed_as (D.type_of (get_or r 0 0)) r names)
          broken_column
      go true = typed (D.type_of (get_or r 0 0))
      go false = refl

-- a record of a table, and all of them, whatever the buffer: an empty name stands in every one
nothing : (s : List ℕ) → part s 0 0 ≡ inside []
unfolding part
nothing s = rw (le-ltb (length s) 0 zero-le)

no_names_lem : (s : List ℕ) → names s [] no_name no_name no_name ≡ no_names
no_names_lem s = rw (nothing s)

pub plain_told : (s r : List ℕ) → column_told s (column_made r no_name no_name no_name) ≡ column_of r no_names
plain_told s r = column_told_lem s r no_name no_name no_name ∙ ap (column_of r) (no_names_lem s)

pub table_told : (s t : List ℕ) → columns_told s (table_made t) ≡ table_columns t
table_told s t =
    map_each 16 (λ r. column_made r no_name no_name no_name) (column_told s) (λ r. column_of r no_names)
    (plain_told s) t
