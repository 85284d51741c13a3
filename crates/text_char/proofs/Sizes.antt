-- How many bytes a scalar value takes, by tables 3-5 and 3-6. Assumes nothing.
use mathlib.Core.Path.{◌≡◌, ap, sym}
use Prim.Native.Nat.{ℕ, ◌<◌, ◌≤◌}
use lib.ListN.{length}
use Rattle.format.specs.Text.{utf8, utf16}
use Rattle.format.proofs.Utf8.{utf8_one, utf8_two, utf8_three, utf8_four}
use Rattle.format.proofs.Utf16.{utf16_one, utf16_two}

module _ (c : ℕ) where
  pub one_byte : c < 0x80 → 1 ≡ length (utf8 c)
  one_byte h = sym (ap length (utf8_one c h))

  pub two_bytes : 0x80 ≤ c → c < 0x800 → 2 ≡ length (utf8 c)
  two_bytes h i = sym (ap length (utf8_two c h i))

  pub three_bytes : 0x800 ≤ c → c < 0x10000 → 3 ≡ length (utf8 c)
  three_bytes h i = sym (ap length (utf8_three c h i))

  pub four_bytes : 0x10000 ≤ c → 4 ≡ length (utf8 c)
  four_bytes h = sym (ap length (utf8_four c h))

  pub one_unit : c < 0x10000 → 2 ≡ length (utf16 c)
  one_unit h = sym (ap length (utf16_one c h))

  pub two_units : 0x10000 ≤ c → 4 ≡ length (utf16 c)
  two_units h = sym (ap length (utf16_two c h))

pub ruleset sizes = (one_byte, two_bytes, three_bytes, four_bytes, one_unit, two_units)
