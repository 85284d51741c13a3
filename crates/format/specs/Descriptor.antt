-- TYPE_INFO both ways: document 01, "TYPE_INFO"; MS-TDS, "Data Type Definitions" and the rule TYPE_INFO.
use Rattle.std.specs.Prelude.{ℕ, ◌*◌, ◌/◌, ◌%◌, ◌^◌, List, [], ◌∷◌, ◌++◌, Bool, true, false, not, length, ltb, eqb, None, Option, Some}
use Rattle.lists.specs.Pick.{pick}
use Rattle.format.specs.Answer.{Answer, gives, refuses, Read, took, stops, unknown, rule, not_carried, refuse_if, then_read, map_read, Part, inside, outside}
use Rattle.format.specs.Number.{low_bytes, read_byte, read_low, read_bytes}

-- ---- the types

-- "Fixed" (MS-TDS: FIXEDLENTYPE).
pub data FixedLen : Type 0 where
  null : FixedLen
  int1 : FixedLen
  bit : FixedLen
  int2 : FixedLen
  int4 : FixedLen
  datetime4 : FixedLen
  float4 : FixedLen
  money : FixedLen
  datetime : FixedLen
  float8 : FixedLen
  money4 : FixedLen
  int8 : FixedLen

-- "One length byte" (BYTELEN_TYPE).
pub data ByteLen : Type 0 where
  guid : ByteLen
  intn : ByteLen
  bitn : ByteLen
  decimaln : ByteLen
  numericn : ByteLen
  floatn : ByteLen
  moneyn : ByteLen
  datetimen : ByteLen
  timen : ByteLen
  datetime2 : ByteLen
  datetime_offsetn : ByteLen

-- "Two length bytes" (USHORTLEN_TYPE).
pub data UShortLen : Type 0 where
  big_var_bin : UShortLen
  big_var_char : UShortLen
  big_binary : UShortLen
  big_char : UShortLen
  n_varchar : UShortLen
  n_char : UShortLen

-- "Four" (LONGLEN_TYPE).
pub data LongLen : Type 0 where
  image : LongLen
  text : LongLen
  n_text : LongLen

pub data TypeId : Type 0 where
  fixed_len : FixedLen → TypeId
  byte_len : ByteLen → TypeId
  u_short_len : UShortLen → TypeId
  long_len : LongLen → TypeId
  daten : TypeId
  xml : TypeId
  udt : TypeId
  ss_variant : TypeId

abbrev pub fixed_byte : FixedLen → ℕ
fixed_byte FixedLen.null = 0x1F
fixed_byte FixedLen.int1 = 0x30
fixed_byte FixedLen.bit = 0x32
fixed_byte FixedLen.int2 = 0x34
fixed_byte FixedLen.int4 = 0x38
fixed_byte FixedLen.datetime4 = 0x3A
fixed_byte FixedLen.float4 = 0x3B
fixed_byte FixedLen.money = 0x3C
fixed_byte FixedLen.datetime = 0x3D
fixed_byte FixedLen.float8 = 0x3E
fixed_byte FixedLen.money4 = 0x7A
fixed_byte FixedLen.int8 = 0x7F

abbrev pub byte_len_byte : ByteLen → ℕ
byte_len_byte ByteLen.guid = 0x24
byte_len_byte ByteLen.intn = 0x26
byte_len_byte ByteLen.bitn = 0x68
byte_len_byte ByteLen.decimaln = 0x6A
byte_len_byte ByteLen.numericn = 0x6C
byte_len_byte ByteLen.floatn = 0x6D
byte_len_byte ByteLen.moneyn = 0x6E
byte_len_byte ByteLen.datetimen = 0x6F
byte_len_byte ByteLen.timen = 0x29
byte_len_byte ByteLen.datetime2 = 0x2A
byte_len_byte ByteLen.datetime_offsetn = 0x2B

abbrev pub u_short_len_byte : UShortLen → ℕ
u_short_len_byte UShortLen.big_var_bin = 0xA5
u_short_len_byte UShortLen.big_var_char = 0xA7
u_short_len_byte UShortLen.big_binary = 0xAD
u_short_len_byte UShortLen.big_char = 0xAF
u_short_len_byte UShortLen.n_varchar = 0xE7
u_short_len_byte UShortLen.n_char = 0xEF

abbrev pub long_len_byte : LongLen → ℕ
long_len_byte LongLen.image = 0x22
long_len_byte LongLen.text = 0x23
long_len_byte LongLen.n_text = 0x63

-- The type byte.
abbrev pub type_byte : TypeId → ℕ
type_byte (fixed_len t) = fixed_byte t
type_byte (byte_len t) = byte_len_byte t
type_byte (u_short_len t) = u_short_len_byte t
type_byte (long_len t) = long_len_byte t
type_byte daten = 0x28
type_byte xml = 0xF1
type_byte udt = 0xF0
type_byte ss_variant = 0x62

abbrev pub types : List TypeId
types =
    fixed_len FixedLen.null ∷ fixed_len FixedLen.int1 ∷ fixed_len FixedLen.bit ∷ fixed_len FixedLen.int2 ∷ fixed_len FixedLen.int4 ∷ fixed_len
    FixedLen.datetime4
    ∷ fixed_len FixedLen.float4 ∷ fixed_len FixedLen.money ∷ fixed_len FixedLen.datetime ∷ fixed_len FixedLen.float8
    ∷ fixed_len FixedLen.money4 ∷ fixed_len FixedLen.int8
    ∷ byte_len ByteLen.guid ∷ byte_len ByteLen.intn ∷ byte_len ByteLen.bitn ∷ byte_len ByteLen.decimaln ∷ byte_len ByteLen.numericn ∷ byte_len ByteLen.floatn
    ∷ byte_len ByteLen.moneyn ∷ byte_len ByteLen.datetimen ∷ byte_len ByteLen.timen ∷ byte_len ByteLen.datetime2 ∷ byte_len ByteLen.datetime_offsetn
    ∷ u_short_len UShortLen.big_var_bin ∷ u_short_len UShortLen.big_var_char ∷ u_short_len UShortLen.big_binary ∷ u_short_len UShortLen.big_char
    ∷ u_short_len UShortLen.n_varchar ∷ u_short_len UShortLen.n_char
    ∷ long_len LongLen.image ∷ long_len LongLen.text ∷ long_len LongLen.n_text
    ∷ daten ∷ xml ∷ udt ∷ ss_variant ∷ []

abbrev pub among : List TypeId → ℕ → Answer TypeId
among [] n = refuses unknown
among (t ∷ ts) n = pick (eqb n (type_byte t)) (gives t) (among ts n)

-- The type whose byte it is; an unknown type byte is 2.
unfoldable pub type_of : ℕ → Answer TypeId
type_of n = among types n

-- ---- a column's descriptor

-- "A collation (4 bytes low first, then a sort byte)."
pub record Collation : Type 0 where
  pub info : ℕ
  pub sort : ℕ

-- XML_INFO's three names, each the UTF-16LE bytes of a part of the lent buffer, "not judged as UTF-16".
pub record Schema : Type 0 where
  pub database : Part
  pub owner : Part
  pub collection : Part

pub record Column : Type 0 where
  pub type : TypeId
  pub length : ℕ
  pub precision : ℕ
  pub scale : ℕ
  pub collation : Option Collation
  pub schema : Option Schema

-- A column with a type and a length, and nothing else.
abbrev pub plain : TypeId → ℕ → Column
plain t n = record { type = t; length = n; precision = 0; scale = 0; collation = None; schema = None }

-- "Decimaln and Numericn then have precision and scale."
abbrev pub has_digits : TypeId → Bool
has_digits (fixed_len t) = false
has_digits (byte_len ByteLen.guid) = false
has_digits (byte_len ByteLen.intn) = false
has_digits (byte_len ByteLen.bitn) = false
has_digits (byte_len ByteLen.decimaln) = true
has_digits (byte_len ByteLen.numericn) = true
has_digits (byte_len ByteLen.floatn) = false
has_digits (byte_len ByteLen.moneyn) = false
has_digits (byte_len ByteLen.datetimen) = false
has_digits (byte_len ByteLen.timen) = false
has_digits (byte_len ByteLen.datetime2) = false
has_digits (byte_len ByteLen.datetime_offsetn) = false
has_digits (u_short_len t) = false
has_digits (long_len t) = false
has_digits daten = false
has_digits xml = false
has_digits udt = false
has_digits ss_variant = false

-- "A collation follows for NText, Text, BigChar, BigVarChar, NChar, NVarchar."
abbrev pub has_collation : TypeId → Bool
has_collation (fixed_len t) = false
has_collation (byte_len t) = false
has_collation (u_short_len UShortLen.big_var_bin) = false
has_collation (u_short_len UShortLen.big_var_char) = true
has_collation (u_short_len UShortLen.big_binary) = false
has_collation (u_short_len UShortLen.big_char) = true
has_collation (u_short_len UShortLen.n_varchar) = true
has_collation (u_short_len UShortLen.n_char) = true
has_collation (long_len LongLen.image) = false
has_collation (long_len LongLen.text) = true
has_collation (long_len LongLen.n_text) = true
has_collation daten = false
has_collation xml = false
has_collation udt = false
has_collation ss_variant = false

-- How many bytes the length takes in the descriptor.
abbrev pub length_width : TypeId → ℕ
length_width (fixed_len t) = 0
length_width (byte_len t) = 1
length_width (u_short_len t) = 2
length_width (long_len t) = 4
length_width daten = 0
length_width xml = 0
length_width udt = 0
length_width ss_variant = 0

-- "Daten: the type byte alone, length 3 understood."
abbrev pub daten_length : ℕ
daten_length = 3

-- ---- reading

-- The collation behind the length, where the type has one.
abbrev pub with_sort : TypeId → ℕ → ℕ → ℕ → Column
with_sort t n info sort = record { type = t; length = n; precision = 0; scale = 0; collation = Some (record { info = info; sort = sort }); schema = None }

abbrev pub read_sort : TypeId → ℕ → ℕ → List ℕ → Read Column
read_sort t n info s = map_read (with_sort t n info) (read_byte s)

abbrev pub read_collation : TypeId → ℕ → List ℕ → Read Column
read_collation t n s = pick (has_collation t) (then_read (read_low 4) (read_sort t n) s) (took (plain t n) 0)

-- Precision and scale behind the length, where the type has them.
abbrev pub with_scale : TypeId → ℕ → ℕ → ℕ → Column
with_scale t n precision scale = record { type = t; length = n; precision = precision; scale = scale; collation = None; schema = None }

abbrev pub read_scale : TypeId → ℕ → ℕ → List ℕ → Read Column
read_scale t n precision s = map_read (with_scale t n precision) (read_byte s)

abbrev pub read_digits : TypeId → ℕ → List ℕ → Read Column
read_digits t n s = pick (has_digits t) (then_read read_byte (read_scale t n) s) (took (plain t n) 0)

-- A name, its units counted by w bytes.
abbrev pub read_units : ℕ → List ℕ → Read (List ℕ)
read_units units s = read_bytes (2 * units) s

abbrev pub read_name : ℕ → List ℕ → Read (List ℕ)
read_name w s = then_read (read_low w) read_units s

abbrev pub names_of : List ℕ → List ℕ → List ℕ → Schema
names_of a b c = record { database = inside a; owner = inside b; collection = inside c }

abbrev pub with_names : List ℕ → List ℕ → List ℕ → Column
with_names a b c = record { type = xml; length = 0; precision = 0; scale = 0; collation = None; schema = Some (names_of a b c) }

abbrev pub read_third : List ℕ → List ℕ → List ℕ → Read Column
read_third a b s = map_read (with_names a b) (read_name 2 s)

abbrev pub read_second : List ℕ → List ℕ → Read Column
read_second a s = then_read (read_name 1) (read_third a) s

-- The marker that says that names follow.
abbrev pub schema_marker : ℕ
schema_marker = 1

-- "A marker byte; if 1, three names, counted in UTF-16 units by one, one and two bytes. Any other marker reads as no schema."
abbrev pub read_schema : ℕ → List ℕ → Read Column
read_schema marker s = pick (eqb marker schema_marker) (then_read (read_name 1) read_second s) (took (plain xml 0) 0)

-- What follows the type byte.
abbrev pub read_fields : TypeId → List ℕ → Read Column
read_fields (fixed_len t) s = took (plain (fixed_len t) 0) 0
read_fields (byte_len t) s = then_read read_byte (read_digits (byte_len t)) s
read_fields (u_short_len t) s = then_read (read_low 2) (read_collation (u_short_len t)) s
read_fields (long_len t) s = then_read (read_low 4) (read_collation (long_len t)) s
read_fields daten s = took (plain daten daten_length) 0
read_fields xml s = then_read read_byte read_schema s
read_fields udt s = stops not_carried
read_fields ss_variant s = stops not_carried

abbrev pub read_typed : Answer TypeId → List ℕ → Read Column
read_typed (gives t) s = read_fields t s
read_typed (refuses e) s = stops e

abbrev pub read_type : ℕ → List ℕ → Read Column
read_type b s = read_typed (type_of b) s

unfoldable pub read_column : List ℕ → Read Column
read_column s = then_read read_byte read_type s

-- ---- rule 6

abbrev pub both : Bool → Bool → Bool
both a b = pick a b false

-- "Its lengths must fit their fields, numbers it has no field for are 0, Daten's length is 3."
abbrev pub length_fits : TypeId → ℕ → Bool
length_fits (fixed_len t) n = eqb n 0
length_fits (byte_len t) n = ltb n (256 ^ 1)
length_fits (u_short_len t) n = ltb n (256 ^ 2)
length_fits (long_len t) n = ltb n (256 ^ 4)
length_fits daten n = eqb n daten_length
length_fits xml n = eqb n 0
length_fits udt n = eqb n 0
length_fits ss_variant n = eqb n 0

abbrev pub digits_fit : Bool → ℕ → ℕ → Bool
digits_fit true precision scale = both (ltb precision 256) (ltb scale 256)
digits_fit false precision scale = both (eqb precision 0) (eqb scale 0)

-- "Collation is present exactly where listed."
abbrev pub collation_fits : Bool → Option Collation → Bool
collation_fits true (Some c) = both (ltb c.info (256 ^ 4)) (ltb c.sort 256)
collation_fits true None = false
collation_fits false (Some c) = false
collation_fits false None = true

-- A schema is Xml's alone.
abbrev pub schema_fits : TypeId → Option Schema → Bool
schema_fits t None = true
schema_fits (fixed_len t) (Some n) = false
schema_fits (byte_len t) (Some n) = false
schema_fits (u_short_len t) (Some n) = false
schema_fits (long_len t) (Some n) = false
schema_fits daten (Some n) = false
schema_fits xml (Some n) = true
schema_fits udt (Some n) = false
schema_fits ss_variant (Some n) = false

-- What a descriptor to be written or used for a value must keep.
unfoldable pub keeps_rule : Column → Bool
keeps_rule c =
    both (length_fits c.type c.length)
    (both (digits_fit (has_digits c.type) c.precision c.scale)
    (both (collation_fits (has_collation c.type) c.collation)
    (schema_fits c.type c.schema)))

-- "When the descriptor itself is written, spans lie in the lent buffer and name counts fit."
abbrev pub name_fits : ℕ → Part → Bool
name_fits w (inside s) = both (eqb (length s % 2) 0) (ltb (length s / 2) (256 ^ w))
name_fits w outside = false

abbrev pub names_fit : Option Schema → Bool
names_fit (Some n) = both (name_fits 1 n.database) (both (name_fits 1 n.owner) (name_fits 2 n.collection))
names_fit None = true

-- ---- writing

abbrev pub digits_bytes : Bool → ℕ → ℕ → List ℕ
digits_bytes true precision scale = precision ∷ scale ∷ []
digits_bytes false precision scale = []

abbrev pub collation_bytes : Option Collation → List ℕ
collation_bytes (Some c) = low_bytes 4 c.info ++ (c.sort ∷ [])
collation_bytes None = []

abbrev pub name_bytes : ℕ → Part → List ℕ
name_bytes w (inside s) = low_bytes w (length s / 2) ++ s
name_bytes w outside = []

abbrev pub schema_bytes : TypeId → Option Schema → List ℕ
schema_bytes (fixed_len t) n = []
schema_bytes (byte_len t) n = []
schema_bytes (u_short_len t) n = []
schema_bytes (long_len t) n = []
schema_bytes daten n = []
schema_bytes xml None = 0 ∷ []
schema_bytes xml (Some n) = schema_marker ∷ (name_bytes 1 n.database ++ (name_bytes 1 n.owner ++ name_bytes 2 n.collection))
schema_bytes udt n = []
schema_bytes ss_variant n = []

unfoldable pub column_bytes : Column → List ℕ
column_bytes c =
    type_byte c.type
    ∷ (low_bytes (length_width c.type) c.length
    ++ (digits_bytes (has_digits c.type) c.precision c.scale
    ++ (collation_bytes c.collation
    ++ schema_bytes c.type c.schema)))

-- "Udt, SSVariant: refusal 7."
abbrev pub is_described : TypeId → Bool
is_described (fixed_len t) = true
is_described (byte_len t) = true
is_described (u_short_len t) = true
is_described (long_len t) = true
is_described daten = true
is_described xml = true
is_described udt = false
is_described ss_variant = false

-- "Writing checks in the order 6, 7, .. 4."
unfoldable pub write_column : Column → Answer (List ℕ)
write_column c =
    refuse_if (not (both (keeps_rule c) (names_fit c.schema))) rule
    (refuse_if (not (is_described c.type)) not_carried
    (gives (column_bytes c)))
