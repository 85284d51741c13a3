-- What this crate's declared types tell, in the words of `format`.
use Rattle.std.specs.Prelude.{Err, None, Ok, Option, Result, Some}
use Rattle.std.specs.Prelude.{ℕ, ◌+◌, ◌*◌, ◌≤◌, ◌≡◌, List, [], ◌∷◌, Bool, true, false, length, take, drop}
use Rattle.format.specs.Answer.{Answer, gives, refuses, unknown, Read, took, stops, Part, part}
use Rattle.format.specs.Descriptor as D
use Rattle.wire.specs.Told.{refusal_told}
use Rattle.column_type.specs.declared.FixedLen.{FixedLen}
use Rattle.column_type.specs.declared.FixedLen.TheVariants as F
use Rattle.column_type.specs.declared.ByteLen.{ByteLen}
use Rattle.column_type.specs.declared.ByteLen.TheVariants as B
use Rattle.column_type.specs.declared.UShortLen.{UShortLen}
use Rattle.column_type.specs.declared.UShortLen.TheVariants as U
use Rattle.column_type.specs.declared.LongLen.{LongLen}
use Rattle.column_type.specs.declared.LongLen.TheVariants as L
use Rattle.column_type.specs.declared.TypeId.{TypeId}
use Rattle.column_type.specs.declared.TypeId.TheVariants as T
use Rattle.column_type.specs.declared.Collation.{Collation}
use Rattle.column_type.specs.declared.Name.{Name}
use Rattle.column_type.specs.declared.Schema.{Schema}
use Rattle.column_type.specs.declared.Column.{Column}
use Rattle.wire.specs.declared.Refusal.{Refusal}
use Rattle.wire.specs.declared.Cursor.{Cursor}

-- ---- the types

abbrev pub fixed_told : FixedLen → D.FixedLen
fixed_told F.Null = D.FixedLen.null
fixed_told F.Int1 = D.FixedLen.int1
fixed_told F.Bit = D.FixedLen.bit
fixed_told F.Int2 = D.FixedLen.int2
fixed_told F.Int4 = D.FixedLen.int4
fixed_told F.Datetime4 = D.FixedLen.datetime4
fixed_told F.Float4 = D.FixedLen.float4
fixed_told F.Money = D.FixedLen.money
fixed_told F.Datetime = D.FixedLen.datetime
fixed_told F.Float8 = D.FixedLen.float8
fixed_told F.Money4 = D.FixedLen.money4
fixed_told F.Int8 = D.FixedLen.int8

abbrev pub byte_len_told : ByteLen → D.ByteLen
byte_len_told B.Guid = D.ByteLen.guid
byte_len_told B.Intn = D.ByteLen.intn
byte_len_told B.Bitn = D.ByteLen.bitn
byte_len_told B.Decimaln = D.ByteLen.decimaln
byte_len_told B.Numericn = D.ByteLen.numericn
byte_len_told B.Floatn = D.ByteLen.floatn
byte_len_told B.Moneyn = D.ByteLen.moneyn
byte_len_told B.Datetimen = D.ByteLen.datetimen
byte_len_told B.Timen = D.ByteLen.timen
byte_len_told B.Datetime2 = D.ByteLen.datetime2
byte_len_told B.DatetimeOffsetn = D.ByteLen.datetime_offsetn

abbrev pub u_short_len_told : UShortLen → D.UShortLen
u_short_len_told U.BigVarBin = D.UShortLen.big_var_bin
u_short_len_told U.BigVarChar = D.UShortLen.big_var_char
u_short_len_told U.BigBinary = D.UShortLen.big_binary
u_short_len_told U.BigChar = D.UShortLen.big_char
u_short_len_told U.NVarchar = D.UShortLen.n_varchar
u_short_len_told U.NChar = D.UShortLen.n_char

abbrev pub long_len_told : LongLen → D.LongLen
long_len_told L.Image = D.LongLen.image
long_len_told L.Text = D.LongLen.text
long_len_told L.NText = D.LongLen.n_text

abbrev pub type_told : TypeId → D.TypeId
type_told (T.Fixed t) = D.fixed_len (fixed_told t)
type_told (T.Byte t) = D.byte_len (byte_len_told t)
type_told (T.UShort t) = D.u_short_len (u_short_len_told t)
type_told (T.Long t) = D.long_len (long_len_told t)
type_told T.Daten = D.daten
type_told T.Xml = D.xml
type_told T.Udt = D.udt
type_told T.SsVariant = D.ss_variant

abbrev pub type_read_told : Result TypeId Refusal → Answer D.TypeId
type_read_told (Ok t) = gives (type_told t)
type_read_told (Err e) = refuses (refusal_told e)

-- the one type with a schema
abbrev pub is_xml : D.TypeId → Bool
is_xml (D.fixed_len t) = false
is_xml (D.byte_len t) = false
is_xml (D.u_short_len t) = false
is_xml (D.long_len t) = false
is_xml D.daten = false
is_xml D.xml = true
is_xml D.udt = false
is_xml D.ss_variant = false

-- ---- a column

abbrev pub collation_told : Option Collation → Option D.Collation
collation_told None = None
collation_told (Some c) = Some (record { info = c.info; sort = c.sort })

-- "Names are kept as spans (start byte, unit count) of a lent buffer"
abbrev pub name_told : List ℕ → Name → Part
name_told buffer n = part buffer n.start (2 * n.units)

abbrev pub schema_told : List ℕ → Option Schema → Option D.Schema
schema_told buffer None = None
schema_told buffer (Some n) =
    Some (record { database = name_told buffer n.database; owner = name_told buffer n.owner; collection = name_told buffer n.collection })

abbrev pub column_told : List ℕ → Column → D.Column
column_told buffer c =
    record {
      type = type_told c.ty;
      length = c.length;
      precision = c.precision;
      scale = c.scale;
      collation = collation_told c.collation;
      schema = schema_told buffer c.schema;
    }

abbrev pub column_read_told : List ℕ → Result (Column × Cursor) Refusal → Read D.Column
column_read_told s (Ok (c, next)) = took (column_told s c) next.at
column_read_told s (Err e) = stops (refusal_told e)

-- a column with a type and a length, and nothing else
abbrev pub plain_column : TypeId → ℕ → Column
plain_column t n = record { ty = t; length = n; precision = 0; scale = 0; collation = None; schema = None }

-- ---- names that were read

-- a name's bytes in the input
abbrev pub name_bytes : List ℕ → Name → List ℕ
name_bytes s n = take (2 * n.units) (drop n.start s)

-- a name lies in the input
abbrev pub NameIn : List ℕ → Name → Type 0
NameIn s n = n.start + 2 * n.units ≤ length s

abbrev pub name_read_told : List ℕ → Result (Name × Cursor) Refusal → Read (List ℕ)
name_read_told s (Ok (n, next)) = took (name_bytes s n) next.at
name_read_told s (Err e) = stops (refusal_told e)

-- a name that was read starts at a place and ends at the next one
abbrev pub NameFrom : List ℕ → ℕ → Result (Name × Cursor) Refusal → Type 0
NameFrom s place (Ok (n, next)) = (n.start ≡ place) × (next.at ≡ n.start + 2 * n.units) × NameIn s n
NameFrom s place (Err e) = Unit {0}

-- three names as a schema
abbrev pub schema_of : Name → Name → Name → Schema
schema_of a b c = record { database = a; owner = b; collection = c }

-- the names of a schema that was read start at a place, one behind another's bytes and its own count
abbrev pub SchemaFrom : List ℕ → ℕ → Option Schema → Type 0
SchemaFrom s place None = Unit {0}
SchemaFrom s place (Some n) =
    (n.database.start ≡ place) × (n.owner.start ≡ n.database.start + 2 * n.database.units + 1)
    × (n.collection.start ≡ n.owner.start + 2 * n.owner.units + 2) × NameIn s n.collection

-- behind two names that were read: they are the column's, and the third starts at a place
abbrev pub ThirdFrom : List ℕ → Name → Name → ℕ → Result (Column × Cursor) Refusal → Type 0
ThirdFrom s a b place (Ok (c, next)) = (third : Name) × (c.schema ≡ Some (schema_of a b third)) × (third.start ≡ place) × NameIn s third
ThirdFrom s a b place (Err e) = Unit {0}

abbrev pub NamesFrom : List ℕ → ℕ → Result (Column × Cursor) Refusal → Type 0
NamesFrom s place (Ok (c, next)) = SchemaFrom s place c.schema
NamesFrom s place (Err e) = Unit {0}
