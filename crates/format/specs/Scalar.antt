-- The values of a fixed width: their kinds, their bytes, and back. Document 01, "Values under a type"; MS-TDS, "System Data Type Values".
use Rattle.std.specs.Prelude.{ℕ, List, [], ◌∷◌, Bool, true, false, not, eqb, ℤ}
use Rattle.lists.specs.Pick.{pick}
use Rattle.format.specs.Answer.{Read, map_read}
use Rattle.format.specs.Number.{low_nat, low_bytes, signed, unsigned, read_bytes}
use Rattle.format.specs.Guid.{guid_order}

pub data Kind : Type 0 where
  bit : Kind
  u8 : Kind
  i16 : Kind
  i32 : Kind
  i64 : Kind
  f32 : Kind
  f64 : Kind
  guid : Kind

-- A value of one of these kinds. A bit's content is its truth; a float is its bits; a GUID is its sixteen bytes in text order.
pub data Scalar : Type 0 where
  bit : Bool → Scalar
  u8 : ℕ → Scalar
  i16 : ℤ → Scalar
  i32 : ℤ → Scalar
  i64 : ℤ → Scalar
  f32 : ℕ → Scalar
  f64 : ℕ → Scalar
  guid : List ℕ → Scalar

-- How many bytes a value of the kind takes.
abbrev pub width : Kind → ℕ
width Kind.bit = 1
width Kind.u8 = 1
width Kind.i16 = 2
width Kind.i32 = 4
width Kind.i64 = 8
width Kind.f32 = 4
width Kind.f64 = 8
width Kind.guid = 16

abbrev pub kind_of : Scalar → Kind
kind_of (Scalar.bit b) = Kind.bit
kind_of (Scalar.u8 n) = Kind.u8
kind_of (Scalar.i16 z) = Kind.i16
kind_of (Scalar.i32 z) = Kind.i32
kind_of (Scalar.i64 z) = Kind.i64
kind_of (Scalar.f32 n) = Kind.f32
kind_of (Scalar.f64 n) = Kind.f64
kind_of (Scalar.guid s) = Kind.guid

-- The value that `width` bytes stand for, "low first". "Bit: 0 is false, any other byte true."
unfoldable pub scalar_of : Kind → List ℕ → Scalar
scalar_of Kind.bit s = Scalar.bit (not (eqb (low_nat s) 0))
scalar_of Kind.u8 s = Scalar.u8 (low_nat s)
scalar_of Kind.i16 s = Scalar.i16 (signed 2 (low_nat s))
scalar_of Kind.i32 s = Scalar.i32 (signed 4 (low_nat s))
scalar_of Kind.i64 s = Scalar.i64 (signed 8 (low_nat s))
scalar_of Kind.f32 s = Scalar.f32 (low_nat s)
scalar_of Kind.f64 s = Scalar.f64 (low_nat s)
scalar_of Kind.guid s = Scalar.guid (guid_order s)

-- Its bytes. A true bit is "written 1".
unfoldable pub scalar_bytes : Scalar → List ℕ
scalar_bytes (Scalar.bit b) = pick b 1 0 ∷ []
scalar_bytes (Scalar.u8 n) = low_bytes 1 n
scalar_bytes (Scalar.i16 z) = low_bytes 2 (unsigned 2 z)
scalar_bytes (Scalar.i32 z) = low_bytes 4 (unsigned 4 z)
scalar_bytes (Scalar.i64 z) = low_bytes 8 (unsigned 8 z)
scalar_bytes (Scalar.f32 n) = low_bytes 4 n
scalar_bytes (Scalar.f64 n) = low_bytes 8 n
scalar_bytes (Scalar.guid s) = guid_order s

-- Reading a value of the kind: "missing content 1".
unfoldable pub read_scalar : Kind → List ℕ → Read Scalar
read_scalar k s = map_read (scalar_of k) (read_bytes (width k) s)

-- Two kinds are the same where their places in this list are.
abbrev pub place : Kind → ℕ
place Kind.bit = 1
place Kind.u8 = 2
place Kind.i16 = 3
place Kind.i32 = 4
place Kind.i64 = 5
place Kind.f32 = 6
place Kind.f64 = 7
place Kind.guid = 8

abbrev pub same_kind : Kind → Kind → Bool
same_kind a b = eqb (place a) (place b)

abbrev pub is_one_of : List Kind → Kind → Bool
is_one_of [] k = false
is_one_of (a ∷ as') k = pick (same_kind k a) true (is_one_of as' k)
