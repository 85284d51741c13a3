-- What a record of a common form has, and what writing it promises.
use Rattle.std.specs.Prelude.{ℕ, ◌<◌, ◌≤◌, ◌≡◌, List, length, get_or, take, drop, None, Option, Some}
use Rattle.format.specs.Answer.{gives, fitted, wrote, room_after}
use Rattle.format.specs.Number.{low_nat}
use Rattle.format.specs.Descriptor.{Schema, write_column}
use Rattle.column_form.specs.Form.{IsForm}
use Rattle.column_form.specs.declared.Form.{Form}
use Rattle.column_form.specs.declared.Form.TheVariants as F
use Rattle.packed.specs.Packed.{column_of}

-- ---- the places

abbrev pub length_at : List ℕ → ℕ
length_at r = low_nat (take 4 (drop 4 r))

-- flags, precision and scale as one number
abbrev pub head_at : List ℕ → ℕ
head_at r = low_nat (take 3 (drop 1 r))

-- what stands behind the length
abbrev pub tail_at : List ℕ → ℕ
tail_at r = low_nat (take 8 (drop 8 r))

abbrev pub IsBare : List ℕ → ℕ → Type 0
IsBare r limit = (head_at r ≡ 0) × (tail_at r ≡ 0) × (length_at r < limit)

abbrev pub IsDigits : List ℕ → Type 0
IsDigits r = (get_or r 1 0 ≡ 0) × (tail_at r ≡ 0) × (length_at r < 256)

abbrev pub IsText : List ℕ → Type 0
IsText r = (head_at r ≡ 1) × (low_nat (take 3 (drop 13 r)) ≡ 0) × (length_at r < 65536)

-- ---- a record whose type byte has a form

abbrev pub FormAt : Form → List ℕ → Type 0
FormAt f r = (16 ≤ length r) × IsForm f (get_or r 0 0)

abbrev pub AloneAt : List ℕ → Type 0
AloneAt r = FormAt F.Alone r

abbrev pub ByteAt : List ℕ → Type 0
ByteAt r = FormAt F.Byte r

abbrev pub DigitsAt : List ℕ → Type 0
DigitsAt r = FormAt F.Digits r

abbrev pub ShortAt : List ℕ → Type 0
ShortAt r = FormAt F.Short r

abbrev pub TextAt : List ℕ → Type 0
TextAt r = FormAt F.Text r

-- ---- what writing promises

-- the column's descriptor, of so many bytes, is at the front of the room; its names, of which such a record has none, may be any
abbrev pub Done : List ℕ → List ℕ → List ℕ → ℕ → Type 0
Done r out new n =
    (names : Schema) → (gives n ≡ wrote (fitted (write_column (column_of r names)) (length out)))
    × (new ≡ room_after (fitted (write_column (column_of r names)) (length out)) out)

-- or nothing was written
abbrev pub Written : List ℕ → List ℕ → List ℕ → Option ℕ → Type 0
Written r out new (Some n) = Done r out new n
Written r out new None = new ≡ out
