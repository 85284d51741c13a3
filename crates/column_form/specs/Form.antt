-- What a form promises of a type byte: the type's family, and what the type has behind its length.
use Rattle.std.specs.Prelude.{ℕ, ◌≡◌, true, false}
use Rattle.format.specs.Answer.{gives}
use Rattle.format.specs.Descriptor.{FixedLen, ByteLen, UShortLen, fixed_len, byte_len, u_short_len, type_of, has_digits, has_collation}
use Rattle.column_form.specs.declared.Form.{Form}
use Rattle.column_form.specs.declared.Form.TheVariants as F

abbrev pub IsForm : Form → ℕ → Type 0
IsForm F.Alone b = (t : FixedLen) × (type_of b ≡ gives (fixed_len t))
IsForm F.Byte b = (t : ByteLen) × (type_of b ≡ gives (byte_len t)) × (has_digits (byte_len t) ≡ false)
IsForm F.Digits b = (t : ByteLen) × (type_of b ≡ gives (byte_len t)) × (has_digits (byte_len t) ≡ true)
IsForm F.Short b = (t : UShortLen) × (type_of b ≡ gives (u_short_len t)) × (has_collation (u_short_len t) ≡ false)
IsForm F.Text b = (t : UShortLen) × (type_of b ≡ gives (u_short_len t)) × (has_collation (u_short_len t) ≡ true)
IsForm F.Other b = Unit {0}
