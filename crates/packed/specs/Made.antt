-- The column of a record, as the code makes it: in the declared types, of which the laws of rows speak. proofs/Told.antt says what it tells.
use Rattle.std.specs.Prelude.{None, Option, Some}
use Rattle.std.specs.Prelude.{ℕ, List, get_or, take, drop}
use Rattle.lists.specs.Pick.{pick}
use Rattle.format.specs.Answer.{Answer, gives, refuses}
use Rattle.format.specs.Number.{low_nat}
use Rattle.format.specs.Descriptor as D
use Rattle.column_type.specs.Told.{plain_column, schema_of}
use Rattle.column_type.specs.Back.{type_back}
use Rattle.column_type.specs.declared.FixedLen.TheVariants as F
use Rattle.column_type.specs.declared.TypeId.{TypeId}
use Rattle.column_type.specs.declared.TypeId.TheVariants as T
use Rattle.column_type.specs.declared.Collation.{Collation}
use Rattle.column_type.specs.declared.Name.{Name}
use Rattle.column_type.specs.declared.Schema.{Schema}
use Rattle.column_type.specs.declared.Column.{Column}
use Rattle.packed.specs.Each.{each}
use Rattle.packed.specs.Packed.{info_at, flags_at, has_collation, has_schema, keeps_places}

abbrev pub collation_made : List ℕ → Option Collation
collation_made r = pick (has_collation (flags_at r)) (Some (record { info = info_at r; sort = get_or r 12 0 })) None

abbrev pub schema_made : ℕ → Name → Name → Name → Option Schema
schema_made flags a b c = pick (has_schema flags) (Some (schema_of a b c)) None

abbrev pub fields_made : TypeId → List ℕ → Name → Name → Name → Column
fields_made t r a b c =
    record {
      ty = t;
      length = low_nat (take 4 (drop 4 r));
      precision = get_or r 2 0;
      scale = get_or r 3 0;
      collation = collation_made r;
      schema = schema_made (flags_at r) a b c;
    }

abbrev pub broken_made : Column
broken_made = plain_column (T.Fixed F.Int1) 1

abbrev pub typed_made : Answer D.TypeId → List ℕ → Name → Name → Name → Column
typed_made (gives t) r a b c = fields_made (type_back t) r a b c
typed_made (refuses e) r a b c = broken_made

unfoldable pub column_made : List ℕ → Name → Name → Name → Column
column_made r a b c = pick (keeps_places r) (typed_made (D.type_of (get_or r 0 0)) r a b c) broken_made

abbrev pub no_name : Name
no_name = record { start = 0; units = 0 }

abbrev pub table_made : List ℕ → List Column
table_made t = each 16 (λ r. column_made r no_name no_name no_name) t
