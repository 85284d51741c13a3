-- Columns whose values have one width, and what is said of them.
use Rattle.std.specs.Prelude.{ℕ, ◌≡◌, None, Option, Some}
use Rattle.format.specs.Descriptor.{FixedLen, fixed_len, byte_len, fixed_byte, byte_len_byte, Column, plain}
use Rattle.format.specs.Scalar.{Kind, width}
use Rattle.format.specs.Value.{fixed_width, fixed_family, untyped_type}
use Rattle.value_kind.specs.Told.{kind_told}
use Rattle.packed_plain.specs.declared.Plain.{Plain}
use Rattle.packed_plain.specs.declared.Plain.TheVariants as P

-- the type whose values are the kind's bytes alone; a GUID has none
abbrev pub bare_type : Kind → FixedLen
bare_type Kind.bit = FixedLen.bit
bare_type Kind.u8 = FixedLen.int1
bare_type Kind.i16 = FixedLen.int2
bare_type Kind.i32 = FixedLen.int4
bare_type Kind.i64 = FixedLen.int8
bare_type Kind.f32 = FixedLen.float4
bare_type Kind.f64 = FixedLen.float8
bare_type Kind.guid = FixedLen.null

-- the column of a kind's bytes alone, and the one that a value of the kind is written under with its own descriptor
abbrev pub bare_column : Kind → Column
bare_column k = plain (fixed_len (bare_type k)) 0

abbrev pub counted_column : Kind → Column
counted_column k = plain (byte_len (untyped_type k)) (width k)

-- The kind has such a column, and its bytes are those that are written again.
abbrev pub IsBare : Kind → Type 0
IsBare k = (fixed_family (bare_type k) ≡ Some (fixed_width k)) × (k ≡ Kind.bit → ⊥)

-- what an answer says of a column
abbrev pub Says : Plain → Column → Type 0
Says (P.Bare k) c = (c ≡ bare_column (kind_told k)) × IsBare (kind_told k)
Says (P.Counted k) c = (c ≡ counted_column (kind_told k)) × (kind_told k ≡ Kind.bit → ⊥)

abbrev pub Tells : Option Plain → Column → Type 0
Tells (Some p) c = Says p c
Tells None c = Unit {0}

-- the same of a type byte and a length
abbrev pub Named : Plain → ℕ → ℕ → Type 0
Named (P.Bare k) ty n = (ty ≡ fixed_byte (bare_type (kind_told k))) × (n ≡ 0) × IsBare (kind_told k)
Named (P.Counted k) ty n = (ty ≡ byte_len_byte (untyped_type (kind_told k))) × (n ≡ width (kind_told k)) × (kind_told k ≡ Kind.bit → ⊥)

abbrev pub Names : Option Plain → ℕ → ℕ → Type 0
Names (Some p) ty n = Named p ty n
Names None ty n = Unit {0}
