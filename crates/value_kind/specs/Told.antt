-- What this crate's declared types tell, in the words of `format`.
use Rattle.std.specs.Prelude.{ℕ, ◌^◌, ◌<◌, ◌≡◌, true, false, List, [], ◌∷◌, Float, None, Option, Some}
use Rattle.std.specs.Float.{Format, binary32, binary64}
use Rattle.std.specs.Float.Ieee.{nan_bits, of_bits, to_bits}
use Rattle.lists.specs.Pick.{pick}
use Rattle.format.specs.Answer.{Part, part}
use Rattle.format.specs.Number.{unsigned}
use Rattle.format.specs.Scalar as S
use Rattle.format.specs.Value as Values
use Rattle.wire.specs.Told.{guid_bytes}
use Rattle.bits.specs.declared.float.Float32.{Float32}
use Rattle.bits.specs.declared.float.Float32.TheVariants as F32
use Rattle.bits.specs.declared.float.Float64.{Float64}
use Rattle.bits.specs.declared.float.Float64.TheVariants as F64
use Rattle.value_kind.specs.declared.Scalar.{Scalar}
use Rattle.value_kind.specs.declared.Scalar.TheVariants as C
use Rattle.value_kind.specs.declared.Span.{Span}
use Rattle.value_kind.specs.declared.Value.{Value}
use Rattle.value_kind.specs.declared.Value.TheVariants as W
use Rattle.value_kind.specs.declared.kinds.Kind.{Kind}
use Rattle.value_kind.specs.declared.kinds.Kind.TheVariants as K
use Rattle.value_kind.specs.declared.kinds.Listed.{Listed}
use Rattle.value_kind.specs.declared.kinds.Listed.TheVariants as L
use Rattle.value_kind.specs.declared.family.ContentKind.{ContentKind}
use Rattle.value_kind.specs.declared.family.ContentKind.TheVariants as CK
use Rattle.value_kind.specs.declared.family.Family.{Family}
use Rattle.value_kind.specs.declared.family.Family.TheVariants as F

-- ---- values of a fixed width

abbrev pub kind_told : Kind → S.Kind
kind_told K.Bit = S.Kind.bit
kind_told K.U8 = S.Kind.u8
kind_told K.I16 = S.Kind.i16
kind_told K.I32 = S.Kind.i32
kind_told K.I64 = S.Kind.i64
kind_told K.F32 = S.Kind.f32
kind_told K.F64 = S.Kind.f64
kind_told K.Guid = S.Kind.guid

-- a float is its bits; a GUID is its sixteen bytes in text order
abbrev pub scalar_told : Scalar → S.Scalar
scalar_told (C.Bit b) = S.Scalar.bit b
scalar_told (C.U8 n) = S.Scalar.u8 n
scalar_told (C.I16 z) = S.Scalar.i16 z
scalar_told (C.I32 z) = S.Scalar.i32 z
scalar_told (C.I64 z) = S.Scalar.i64 z
scalar_told (C.F32 x) = S.Scalar.f32 (to_bits binary32 x)
scalar_told (C.F32Nan n) = S.Scalar.f32 n
scalar_told (C.F64 x) = S.Scalar.f64 (to_bits binary64 x)
scalar_told (C.F64Nan n) = S.Scalar.f64 n
scalar_told (C.Guid g) = S.Scalar.guid (guid_bytes g)

-- a float, or a NaN by its pattern
abbrev pub made32 : Float32 → Scalar
made32 (F32.Value x) = C.F32 x
made32 (F32.Nan n) = C.F32Nan n

abbrev pub made64 : Float64 → Scalar
made64 (F64.Value x) = C.F64 x
made64 (F64.Nan n) = C.F64Nan n

-- Two cases may tell the same bits, a float's and a NaN's. A reader gives the one that is theirs: "NaN patterns by their bits" are the NaN case and only that;
-- a float is the one that its bits stand for; a GUID's two numbers have eight bytes each.
abbrev pub IsFloat : Format → Float → Type 0
IsFloat f x = (nan_bits f (to_bits f x) ≡ false) × (of_bits f (to_bits f x) ≡ x)

abbrev pub Canonical : Scalar → Type 0
Canonical (C.Bit b) = Unit {0}
Canonical (C.U8 n) = Unit {0}
Canonical (C.I16 z) = Unit {0}
Canonical (C.I32 z) = Unit {0}
Canonical (C.I64 z) = Unit {0}
Canonical (C.F32 x) = IsFloat binary32 x
Canonical (C.F32Nan n) = nan_bits binary32 n ≡ true
Canonical (C.F64 x) = IsFloat binary64 x
Canonical (C.F64Nan n) = nan_bits binary64 n ≡ true
Canonical (C.Guid g) = (g.high < 256 ^ 8) × (g.low < 256 ^ 8)

-- the number whose low bytes are the value's
abbrev pub number_of : S.Scalar → ℕ
number_of (S.Scalar.bit b) = pick b 1 0
number_of (S.Scalar.u8 n) = n
number_of (S.Scalar.i16 z) = unsigned 2 z
number_of (S.Scalar.i32 z) = unsigned 4 z
number_of (S.Scalar.i64 z) = unsigned 8 z
number_of (S.Scalar.f32 n) = n
number_of (S.Scalar.f64 n) = n
number_of (S.Scalar.guid s) = 0

-- ---- the carried types

abbrev pub listed_told : Listed → List S.Kind
listed_told L.Integers = S.Kind.u8 ∷ S.Kind.i16 ∷ S.Kind.i32 ∷ S.Kind.i64 ∷ []
listed_told L.Bits = S.Kind.bit ∷ []
listed_told L.Floats = S.Kind.f32 ∷ S.Kind.f64 ∷ []
listed_told L.Guids = S.Kind.guid ∷ []

abbrev pub content_kind_told : ContentKind → Values.ContentKind
content_kind_told CK.Binary = Values.ContentKind.binary
content_kind_told CK.String = Values.ContentKind.string

abbrev pub family_told : Family → Option Values.Family
family_told (F.Fixed k) = Some (Values.fixed_width (kind_told k))
family_told (F.LengthByte l) = Some (Values.length_byte (listed_told l))
family_told (F.Content k) = Some (Values.content (content_kind_told k))
family_told F.NotCarried = None

-- ---- a value to be written, its content a part of the lent buffer

abbrev pub span_told : List ℕ → Span → Part
span_told buffer p = part buffer p.start p.count

abbrev pub value_told : List ℕ → Value → Values.Given
value_told buffer W.Null = Values.Given.null
value_told buffer (W.Scalar s) = Values.Given.scalar (scalar_told s)
value_told buffer (W.Binary p) = Values.Given.binary (span_told buffer p)
value_told buffer (W.String p) = Values.Given.string (span_told buffer p)
