-- A column's descriptor that was read, as a record of 16 bytes, and beside it six numbers: start and units of XML_INFO's three names.
use Rattle.std.specs.Prelude.{ℕ, ◌+◌, ◌*◌, ◌/◌, List, [], ◌∷◌, length, None, Option, Some}
use Rattle.format.specs.Answer.{Read, map_read, read_at, Part, inside, outside}
use Rattle.format.specs.Descriptor.{Schema, read_column}
use Rattle.packed.specs.Packed.{record_of}

-- ---- the record, with the index that the caller gives: "XML descriptors keep their spans beside the table, with an index in the record."

abbrev pub record_at : ℕ → List ℕ → ℕ → Read (List ℕ)
record_at index s at = map_read (λ c. record_of c index) (read_at read_column s at)

-- ---- the names' places in the input

abbrev pub units : Part → ℕ
units (inside s) = length s / 2
units outside = 0

-- each name's start and units; the second name stands behind the first and a count of one byte, the third behind the second and a count of two
abbrev pub spans : ℕ → ℕ → ℕ → ℕ → List ℕ
spans start a b c = start ∷ a ∷ (start + 2 * a + 1) ∷ b ∷ (start + 2 * a + 1 + 2 * b + 2) ∷ c ∷ []

-- the first stands behind the type byte, the marker and a count of one byte
abbrev pub schema_spans : ℕ → Option Schema → List ℕ
schema_spans at None = 0 ∷ 0 ∷ 0 ∷ 0 ∷ 0 ∷ 0 ∷ []
schema_spans at (Some n) = spans (at + 3) (units n.database) (units n.owner) (units n.collection)

abbrev pub spans_at : List ℕ → ℕ → Read (List ℕ)
spans_at s at = map_read (λ c. schema_spans at c.schema) (read_at read_column s at)
