-- A column as a record of 16 bytes, for callers in other languages: document 02, "Descriptors in one packed table".
use Rattle.std.specs.Prelude.{ℕ, ◌+◌, ◌/◌, ◌%◌, List, [], ◌∷◌, ◌++◌, Bool, true, length, get_or, take, drop, eqb, ltb, leb, None, Option, Some}
use Rattle.lists.specs.Pick.{pick}
use Rattle.format.specs.Answer.{Answer, gives, refuses, inside}
use Rattle.format.specs.Number.{low_nat, low_bytes}
use Rattle.format.specs.Descriptor.{TypeId, fixed_len, FixedLen, type_byte, type_of, Collation, Schema, Column, plain, both}
use Rattle.packed.specs.Each.{each}

-- ---- a column's record

-- bit 0 of the flags: a collation is present; bit 1: a schema is
abbrev pub collation_flag : Option Collation → ℕ
collation_flag None = 0
collation_flag (Some c) = 1

abbrev pub schema_flag : Option Schema → ℕ
schema_flag None = 0
schema_flag (Some n) = 2

-- "unused places zero"
abbrev pub collation_places : Option Collation → List ℕ
collation_places None = low_bytes 4 0 ++ (0 ∷ [])
collation_places (Some c) = low_bytes 4 c.info ++ (c.sort ∷ [])

-- "XML descriptors keep their spans beside the table, with an index in the record."
abbrev pub index_places : Option Schema → ℕ → List ℕ
index_places None index = low_bytes 2 0
index_places (Some n) index = low_bytes 2 index

-- type, flags, precision, scale; length; collation and sort byte; a zero; the index of the names
unfoldable pub record_of : Column → ℕ → List ℕ
record_of c index =
    type_byte c.type ∷ (collation_flag c.collation + schema_flag c.schema) ∷ c.precision ∷ c.scale
    ∷ (low_bytes 4 c.length ++ (collation_places c.collation ++ (0 ∷ index_places c.schema index)))

-- ---- back

abbrev pub info_at : List ℕ → ℕ
info_at r = low_nat (take 4 (drop 8 r))

abbrev pub index_at : List ℕ → ℕ
index_at r = low_nat (take 2 (drop 14 r))

abbrev pub flags_at : List ℕ → ℕ
flags_at r = get_or r 1 0

abbrev pub has_collation : ℕ → Bool
has_collation flags = eqb (flags % 2) 1

abbrev pub has_schema : ℕ → Bool
has_schema flags = eqb (flags / 2) 1

-- "unused places zero": bytes that nothing uses stand for 0
abbrev pub unused_zero : Bool → List ℕ → Bool
unused_zero used places = pick used true (eqb (low_nat places) 0)

-- 16 bytes, no other flag; unused places zero. What stands behind the 16 bytes is another record's.
unfoldable pub keeps_places : List ℕ → Bool
keeps_places r =
    both (leb 16 (length r))
    (both (ltb (flags_at r) 4)
    (both (eqb (get_or r 13 0) 0)
    (both (unused_zero (has_collation (flags_at r)) (take 5 (drop 8 r)))
    (unused_zero (has_schema (flags_at r)) (take 2 (drop 14 r))))))

abbrev pub collation_at : List ℕ → Option Collation
collation_at r = pick (has_collation (flags_at r)) (Some (record { info = info_at r; sort = get_or r 12 0 })) None

abbrev pub schema_at : List ℕ → Schema → Option Schema
schema_at r names = pick (has_schema (flags_at r)) (Some names) None

-- what stands at the places of a record, under a type
abbrev pub fields_of : TypeId → List ℕ → Schema → Column
fields_of t r names =
    record {
      type = t;
      length = low_nat (take 4 (drop 4 r));
      precision = get_or r 2 0;
      scale = get_or r 3 0;
      collation = collation_at r;
      schema = schema_at r names;
    }

-- a column that breaks the rule: a number without a field
abbrev pub broken_column : Column
broken_column = plain (fixed_len FixedLen.int1) 1

abbrev pub typed_as : Answer TypeId → List ℕ → Schema → Column
typed_as (gives t) r names = fields_of t r names
typed_as (refuses e) r names = broken_column

-- The column that packs to the record that the bytes begin with; its names stand beside the table. "A record that no list packs to is 6": it stands for a
-- column that is 6 wherever it is used.
unfoldable pub column_of : List ℕ → Schema → Column
column_of r names = pick (keeps_places r) (typed_as (type_of (get_or r 0 0)) r names) broken_column

-- a row does not ask for names
abbrev pub no_names : Schema
no_names = record { database = inside []; owner = inside []; collection = inside [] }

-- A table: one record behind another. A shorter last one is a record that no column packs to.
abbrev pub table_columns : List ℕ → List Column
table_columns t = each 16 (λ r. column_of r no_names) t
