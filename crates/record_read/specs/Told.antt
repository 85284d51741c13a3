-- What the fields of a descriptor of a common form promise, and the record that they make.
use Rattle.std.specs.Prelude.{ℕ, ◌/◌, ◌%◌, ◌≤◌, ◌≡◌, List, [], ◌∷◌, length, get_or, None, Option, Some}
use Rattle.format.specs.Answer.{took}
use Rattle.format.specs.Descriptor.{Column, read_column}
use Rattle.column_form.specs.Form.{IsForm}
use Rattle.column_form.specs.declared.Form.{Form}
use Rattle.column_form.specs.declared.Form.TheVariants as F
use Rattle.packed.specs.Packed.{record_of}
use Rattle.record_read.specs.declared.Fields.{Fields}

-- ---- bytes whose first is a type byte that has a form

abbrev pub FormAt : Form → List ℕ → Type 0
FormAt f s = (1 ≤ length s) × IsForm f (get_or s 0 0)

abbrev pub AloneAt : List ℕ → Type 0
AloneAt s = FormAt F.Alone s

abbrev pub ByteAt : List ℕ → Type 0
ByteAt s = FormAt F.Byte s

abbrev pub DigitsAt : List ℕ → Type 0
DigitsAt s = FormAt F.Digits s

abbrev pub ShortAt : List ℕ → Type 0
ShortAt s = FormAt F.Short s

abbrev pub TextAt : List ℕ → Type 0
TextAt s = FormAt F.Text s

-- ---- the record

-- the lowest byte
abbrev pub low : ℕ → ℕ
low n = n % 256

abbrev pub bare : ℕ → ℕ → ℕ → Fields
bare size ty length = record { size = size; ty = ty; flags = 0; precision = 0; scale = 0; length = length; info = 0; sort = 0 }

abbrev pub with_digits : ℕ → ℕ → ℕ → ℕ → Fields
with_digits ty length precision scale =
    record { size = 4; ty = ty; flags = 0; precision = precision; scale = scale; length = length; info = 0; sort = 0 }

abbrev pub with_text : ℕ → ℕ → ℕ → ℕ → Fields
with_text ty length info sort = record { size = 8; ty = ty; flags = 1; precision = 0; scale = 0; length = length; info = info; sort = sort }

unfoldable pub record_made : Fields → List ℕ
record_made f =
    let n = f.length in
    let i = f.info in
    f.ty ∷ f.flags ∷ f.precision ∷ f.scale
    ∷ low n ∷ low (n / 256) ∷ low (n / 256 / 256) ∷ low (n / 256 / 256 / 256)
    ∷ low i ∷ low (i / 256) ∷ low (i / 256 / 256) ∷ low (i / 256 / 256 / 256) ∷ f.sort
    ∷ 0 ∷ 0 ∷ 0 ∷ []

-- ---- what reading promises: a column without names, of so many bytes, whose record these fields make under any index; or nothing

abbrev pub IsRead : List ℕ → Option Fields → Type 0
IsRead s (Some f) =
    (f.size ≤ length s) × (c : Column) × (read_column s ≡ took c f.size) × (c.schema ≡ None) × ((index : ℕ) → record_made f ≡ record_of c index)
IsRead s None = Unit {0}
