-- Column values both ways: document 01, "Values under a type"; MS-TDS, the rule TYPE_VARBYTE.
use Rattle.std.specs.Prelude.{ℕ, List, [], ◌∷◌, ◌++◌, Bool, true, false, not, length, leb, ltb, eqb, None, Option, Some}
use Rattle.lists.specs.Pick.{pick}
use Rattle.format.specs.Answer.{Answer, gives, refuses, Read, took, stops, missing, kind, long, rule, not_carried, sequence, refuse_if, stop_if}
use Rattle.format.specs.Answer.{then_read, map_read, and_then, Part, inside, outside}
use Rattle.format.specs.Number.{low_bytes, read_byte, read_low, read_bytes}
use Rattle.format.specs.Text.{text_in}
use Rattle.format.specs.Descriptor.{FixedLen, ByteLen, UShortLen, TypeId, fixed_len, byte_len, u_short_len, long_len, daten, xml, udt, ss_variant}
use Rattle.format.specs.Descriptor.{fixed_byte, byte_len_byte, u_short_len_byte, Column, keeps_rule}
use Rattle.format.specs.Scalar.{Kind, Scalar, width, kind_of, scalar_bytes, read_scalar, same_kind, is_one_of}
use Rattle.format.specs.Plp.{plp_mark, plp_bound, is_odd, read_plp, plp_bytes}

-- ---- values

-- A value with its content. A string's content is its UTF-16LE bytes.
pub data Value : Type 0 where
  null : Value
  scalar : Scalar → Value
  binary : List ℕ → Value
  string : List ℕ → Value

-- A value to be written: content is a part of the lent buffer, a string's in UTF-8.
pub data Given : Type 0 where
  null : Given
  scalar : Scalar → Given
  binary : Part → Given
  string : Part → Given

-- ---- the carried types, by the form of their values

pub data ContentKind : Type 0 where
  binary : ContentKind
  string : ContentKind

pub data Family : Type 0 where
  -- "Fixed: the bytes alone."
  fixed_width : Kind → Family
  -- "A length byte, 0 for null, else one of" the widths of these kinds.
  length_byte : List Kind → Family
  -- "Binary and string."
  content : ContentKind → Family

abbrev pub fixed_family : FixedLen → Option Family
fixed_family FixedLen.null = None
fixed_family FixedLen.int1 = Some (fixed_width Kind.u8)
fixed_family FixedLen.bit = Some (fixed_width Kind.bit)
fixed_family FixedLen.int2 = Some (fixed_width Kind.i16)
fixed_family FixedLen.int4 = Some (fixed_width Kind.i32)
fixed_family FixedLen.datetime4 = None
fixed_family FixedLen.float4 = Some (fixed_width Kind.f32)
fixed_family FixedLen.money = None
fixed_family FixedLen.datetime = None
fixed_family FixedLen.float8 = Some (fixed_width Kind.f64)
fixed_family FixedLen.money4 = None
fixed_family FixedLen.int8 = Some (fixed_width Kind.i64)

-- "Intn, Bitn, Floatn, Guid: .. 1, 2, 4, 8 / 1 / 4, 8 / 16." "Width 1 under Intn is the unsigned one."
abbrev pub byte_len_family : ByteLen → Option Family
byte_len_family ByteLen.guid = Some (length_byte (Kind.guid ∷ []))
byte_len_family ByteLen.intn = Some (length_byte (Kind.u8 ∷ Kind.i16 ∷ Kind.i32 ∷ Kind.i64 ∷ []))
byte_len_family ByteLen.bitn = Some (length_byte (Kind.bit ∷ []))
byte_len_family ByteLen.decimaln = None
byte_len_family ByteLen.numericn = None
byte_len_family ByteLen.floatn = Some (length_byte (Kind.f32 ∷ Kind.f64 ∷ []))
byte_len_family ByteLen.moneyn = None
byte_len_family ByteLen.datetimen = None
byte_len_family ByteLen.timen = None
byte_len_family ByteLen.datetime2 = None
byte_len_family ByteLen.datetime_offsetn = None

abbrev pub u_short_len_family : UShortLen → Option Family
u_short_len_family UShortLen.big_var_bin = Some (content ContentKind.binary)
u_short_len_family UShortLen.big_var_char = None
u_short_len_family UShortLen.big_binary = Some (content ContentKind.binary)
u_short_len_family UShortLen.big_char = None
u_short_len_family UShortLen.n_varchar = Some (content ContentKind.string)
u_short_len_family UShortLen.n_char = Some (content ContentKind.string)

-- The form of a carried type's values; none for "a type that isn't carried (Null 0x1F included)".
abbrev pub family_of : TypeId → Option Family
family_of (fixed_len t) = fixed_family t
family_of (byte_len t) = byte_len_family t
family_of (u_short_len t) = u_short_len_family t
family_of (long_len t) = None
family_of daten = None
family_of xml = None
family_of udt = None
family_of ss_variant = None

abbrev pub is_text : ContentKind → Bool
is_text ContentKind.binary = false
is_text ContentKind.string = true

-- Content of the kind, or null, as a value.
abbrev pub content_value : ContentKind → Option (List ℕ) → Value
content_value k None = Value.null
content_value ContentKind.binary (Some c) = Value.binary c
content_value ContentKind.string (Some c) = Value.string c

-- "Content may not exceed the declared length": the bound under a declared length.
abbrev pub content_bound : ℕ → ℕ
content_bound declared = pick (eqb declared plp_mark) plp_bound declared

-- ---- reading

-- The listed kind of a width.
abbrev pub of_width : List Kind → ℕ → Option Kind
of_width [] n = None
of_width (k ∷ ks) n = pick (eqb n (width k)) (Some k) (of_width ks n)

-- "Unlisted length byte 8, then above the declared length 5, .. then missing content 1."
abbrev pub read_width : ℕ → ℕ → Option Kind → List ℕ → Read Value
read_width declared n None s = stops sequence
read_width declared n (Some k) s = stop_if (ltb declared n) long (map_read Value.scalar (read_scalar k s))

abbrev pub read_length_byte : List Kind → ℕ → ℕ → List ℕ → Read Value
read_length_byte ks declared n s = pick (eqb n 0) (took Value.null 0) (read_width declared n (of_width ks n) s)

-- "Two length bytes, 0xFFFF for null, then content"; "above the declared length 5, then odd 8, then missing content 1".
abbrev pub short_null : ℕ
short_null = 0xFFFF

abbrev pub read_short : ContentKind → ℕ → ℕ → List ℕ → Read Value
read_short k declared n s =
    pick (eqb n short_null) (took Value.null 0)
    (stop_if (ltb declared n) long
    (stop_if (is_odd (is_text k) n) sequence
    (map_read (λ c. content_value k (Some c)) (read_bytes n s))))

abbrev pub read_content : ContentKind → ℕ → List ℕ → Read Value
read_content k declared s =
    pick (eqb declared plp_mark) (map_read (content_value k) (read_plp (is_text k) s)) (then_read (read_low 2) (read_short k declared) s)

abbrev pub read_family : ℕ → Option Family → List ℕ → Read Value
read_family declared None s = stops not_carried
read_family declared (Some (fixed_width k)) s = map_read Value.scalar (read_scalar k s)
read_family declared (Some (length_byte ks)) s = then_read read_byte (read_length_byte ks declared) s
read_family declared (Some (content k)) s = read_content k declared s

-- "Reading checks 6, 7, then the bytes in their order."
unfoldable pub read_value : Column → List ℕ → Read Value
read_value c s = stop_if (not (keeps_rule c)) rule (read_family c.length (family_of c.type) s)

-- "PLP content is the chunks joined, copied out": what a value that was read needs of the room.
abbrev pub content_of : Value → List ℕ
content_of Value.null = []
content_of (Value.scalar v) = []
content_of (Value.binary s) = s
content_of (Value.string s) = s

abbrev pub is_plp : Column → Bool
is_plp c = eqb c.length plp_mark

unfoldable pub copied_out : Column → Value → List ℕ
copied_out c v = pick (is_plp c) (content_of v) []

-- ---- writing

-- The bytes of a value under a type.
abbrev pub short_bytes : List ℕ → List ℕ
short_bytes s = low_bytes 2 (length s) ++ s

abbrev pub encode_content : ℕ → Option (List ℕ) → List ℕ
encode_content declared None = pick (eqb declared plp_mark) (plp_bytes None) (low_bytes 2 short_null)
encode_content declared (Some s) = pick (eqb declared plp_mark) (plp_bytes (Some s)) (short_bytes s)

abbrev pub encode_in : ℕ → Family → Value → List ℕ
encode_in declared (fixed_width k) Value.null = []
encode_in declared (fixed_width k) (Value.scalar v) = scalar_bytes v
encode_in declared (fixed_width k) (Value.binary s) = []
encode_in declared (fixed_width k) (Value.string s) = []
encode_in declared (length_byte ks) Value.null = 0 ∷ []
encode_in declared (length_byte ks) (Value.scalar v) = width (kind_of v) ∷ scalar_bytes v
encode_in declared (length_byte ks) (Value.binary s) = []
encode_in declared (length_byte ks) (Value.string s) = []
encode_in declared (content k) Value.null = encode_content declared None
encode_in declared (content k) (Value.scalar v) = []
encode_in declared (content k) (Value.binary s) = encode_content declared (Some s)
encode_in declared (content k) (Value.string s) = encode_content declared (Some s)

abbrev pub encode_family : ℕ → Option Family → Value → List ℕ
encode_family declared None v = []
encode_family declared (Some f) v = encode_in declared f v

unfoldable pub encode : Column → Value → List ℕ
encode c v = encode_family c.length (family_of c.type) v

-- "3: the value's kind doesn't fit the type, including null under a fixed type."
abbrev pub kind_fits : Family → Given → Bool
kind_fits (fixed_width k) Given.null = false
kind_fits (fixed_width k) (Given.scalar v) = same_kind (kind_of v) k
kind_fits (fixed_width k) (Given.binary p) = false
kind_fits (fixed_width k) (Given.string p) = false
kind_fits (length_byte ks) Given.null = true
kind_fits (length_byte ks) (Given.scalar v) = is_one_of ks (kind_of v)
kind_fits (length_byte ks) (Given.binary p) = false
kind_fits (length_byte ks) (Given.string p) = false
kind_fits (content k) Given.null = true
kind_fits (content k) (Given.scalar v) = false
kind_fits (content k) (Given.binary p) = not (is_text k)
kind_fits (content k) (Given.string p) = is_text k

-- "1: the content span of a value to be written leaves its buffer"; "9: text to be written isn't UTF-8".
abbrev pub string_of : Answer (List ℕ) → Answer Value
string_of (gives s) = gives (Value.string s)
string_of (refuses e) = refuses e

abbrev pub value_of : Given → Answer Value
value_of Given.null = gives Value.null
value_of (Given.scalar v) = gives (Value.scalar v)
value_of (Given.binary (inside s)) = gives (Value.binary s)
value_of (Given.binary outside) = refuses missing
value_of (Given.string (inside s)) = string_of (text_in s)
value_of (Given.string outside) = refuses missing

-- "5: content is longer than allowed"; "a listed width above the declared length: 5".
abbrev pub too_long : ℕ → Family → Value → Bool
too_long declared (fixed_width k) v = false
too_long declared (length_byte ks) Value.null = false
too_long declared (length_byte ks) (Value.scalar v) = ltb declared (width (kind_of v))
too_long declared (length_byte ks) (Value.binary s) = false
too_long declared (length_byte ks) (Value.string s) = false
too_long declared (content k) Value.null = false
too_long declared (content k) (Value.scalar v) = false
too_long declared (content k) (Value.binary s) = ltb (content_bound declared) (length s)
too_long declared (content k) (Value.string s) = ltb (content_bound declared) (length s)

abbrev pub bounded : ℕ → Family → Value → Answer (List ℕ)
bounded declared f v = refuse_if (too_long declared f v) long (gives (encode_in declared f v))

abbrev pub write_family : ℕ → Option Family → Given → Answer (List ℕ)
write_family declared None g = refuses not_carried
write_family declared (Some f) g = refuse_if (not (kind_fits f g)) kind (and_then (value_of g) (bounded declared f))

-- "Writing checks in the order 6, 7, 3, 1, 9, 5, 4."
unfoldable pub write_value : Column → Given → Answer (List ℕ)
write_value c g = refuse_if (not (keeps_rule c)) rule (write_family c.length (family_of c.type) g)

-- ---- untyped writing

-- "Intn, Bitn, Floatn, Guid with length equal to the width."
abbrev pub untyped_type : Kind → ByteLen
untyped_type Kind.bit = ByteLen.bitn
untyped_type Kind.u8 = ByteLen.intn
untyped_type Kind.i16 = ByteLen.intn
untyped_type Kind.i32 = ByteLen.intn
untyped_type Kind.i64 = ByteLen.intn
untyped_type Kind.f32 = ByteLen.floatn
untyped_type Kind.f64 = ByteLen.floatn
untyped_type Kind.guid = ByteLen.guid

-- "Binary up to 8,000 bytes as BigVarBin 8000, above as 65,535; string up to 4,000 UTF-8 bytes as NVarchar 8000, above as 65,535."
abbrev pub untyped_length : ℕ
untyped_length = 8000

abbrev pub untyped_binary : ℕ
untyped_binary = 8000

abbrev pub untyped_string : ℕ
untyped_string = 4000

-- "Untyped PLP has its own bound: 2,147,483,647 content bytes."
unfoldable pub untyped_bound : ℕ
untyped_bound = 2147483647

-- Type byte, declared length, collation, then the content in the short form, or in the PLP form behind its own bound.
abbrev pub untyped_content : Bool → UShortLen → List ℕ → List ℕ → Answer (List ℕ)
untyped_content true t collation s = gives (u_short_len_byte t ∷ (low_bytes 2 untyped_length ++ (collation ++ short_bytes s)))
untyped_content false t collation s =
    refuse_if (ltb untyped_bound (length s)) long (gives (u_short_len_byte t ∷ (low_bytes 2 plp_mark ++ (collation ++ plp_bytes (Some s)))))

-- "Five zero bytes of collation."
abbrev pub zero_collation : List ℕ
zero_collation = 0 ∷ 0 ∷ 0 ∷ 0 ∷ 0 ∷ []

-- The choice goes by the UTF-8 bytes, not by the units.
abbrev pub untyped_text : Bool → Answer (List ℕ) → Answer (List ℕ)
untyped_text short (gives s) = untyped_content short UShortLen.n_varchar zero_collation s
untyped_text short (refuses e) = refuses e

-- "Null is 1F. Otherwise type byte, declared length, then the value."
unfoldable pub write_untyped : Given → Answer (List ℕ)
write_untyped Given.null = gives (fixed_byte FixedLen.null ∷ [])
write_untyped (Given.scalar v) =
    gives (byte_len_byte (untyped_type (kind_of v)) ∷ width (kind_of v) ∷ width (kind_of v) ∷ scalar_bytes v)
write_untyped (Given.binary (inside s)) = untyped_content (leb (length s) untyped_binary) UShortLen.big_var_bin [] s
write_untyped (Given.binary outside) = refuses missing
write_untyped (Given.string (inside s)) = untyped_text (leb (length s) untyped_string) (text_in s)
write_untyped (Given.string outside) = refuses missing
