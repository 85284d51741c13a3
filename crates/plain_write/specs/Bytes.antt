-- The bytes of a value of one width by its three numbers, without the column and the value.
use Rattle.std.specs.Prelude.{ℕ, ◌*◌, ◌^◌, ◌<◌, ◌≤◌, ◌≡◌, List, [], ◌∷◌, ◌++◌, eqb, length, drop, None, Option, Some}
use Rattle.lists.specs.Pick.{pick}
use Rattle.format.specs.Answer.{Answer, gives}
use Rattle.format.specs.Number.{low_bytes, high_bytes}
use Rattle.format.specs.Guid.{guid_order}
use Rattle.format.specs.Descriptor.{Column}
use Rattle.format.specs.Scalar.{Kind, width}
use Rattle.format.specs.Value.{write_value}
use Rattle.column_type.specs.Told.{column_told}
use Rattle.value_kind.specs.Told.{kind_told, value_told}
use Rattle.packed.specs.Made.{column_made, no_name}
use Rattle.packed_value.specs.Numbers.{value_of}
use Rattle.packed_value.specs.Made.{given_made}
use Rattle.packed_plain.specs.Says.{Says, Tells}
use Rattle.packed_plain.specs.declared.Plain.{Plain}
use Rattle.packed_plain.specs.declared.Plain.TheVariants as P

-- the low bytes of the first number; a GUID's two halves in wire order
unfoldable pub kind_bytes : Kind → ℕ → ℕ → List ℕ
kind_bytes Kind.bit first second = low_bytes 1 first
kind_bytes Kind.u8 first second = low_bytes 1 first
kind_bytes Kind.i16 first second = low_bytes 2 first
kind_bytes Kind.i32 first second = low_bytes 4 first
kind_bytes Kind.i64 first second = low_bytes 8 first
kind_bytes Kind.f32 first second = low_bytes 4 first
kind_bytes Kind.f64 first second = low_bytes 8 first
kind_bytes Kind.guid first second = guid_order (high_bytes 8 first ++ high_bytes 8 second)

-- alone; null, or behind their count; none where nothing was told of the column
abbrev pub plain_bytes : Option Plain → ℕ → ℕ → ℕ → List ℕ
plain_bytes (Some (P.Bare k)) kind first second = kind_bytes (kind_told k) first second
plain_bytes (Some (P.Counted k)) kind first second = pick (eqb kind 0) (0 ∷ []) (width (kind_told k) ∷ kind_bytes (kind_told k) first second)
plain_bytes None kind first second = []

-- an answer is these bytes, n of them
pub record Takes (a : Answer (List ℕ)) (bytes : List ℕ) (n : ℕ) : Type 0 where
  pub written : a ≡ gives bytes
  pub counted : length bytes ≡ n

-- The count is the value's, whatever its other numbers are.
abbrev pub Sizes : Option Plain → ℕ → ℕ → Type 0
Sizes p kind n =
    (c : Column) → Tells p c → (buffer : List ℕ) (first second : ℕ) → first < 256 ^ 8
    → Takes (write_value c (value_of buffer kind first second)) (plain_bytes p kind first second) n

abbrev pub IsSize : Option Plain → ℕ → Option ℕ → Type 0
IsSize p kind None = Unit {0}
IsSize p kind (Some n) = (n ≤ 17) × Sizes p kind n

-- the same of what is told of a column
abbrev pub IsPlain : Column → ℕ → Option (Plain × ℕ) → Type 0
IsPlain c kind None = Unit {0}
IsPlain c kind (Some (p, n)) = Says p c × (n ≤ 17) × Sizes (Some p) kind n

-- the value at i under the column at i, as the code makes both
abbrev pub written_at : List ℕ → List ℕ → List ℕ → ℕ → Answer (List ℕ)
written_at table values buffer i =
    write_value (column_told buffer (column_made (drop (16 * i) table) no_name no_name no_name)) (value_told buffer (given_made (drop (3 * i) values)))
