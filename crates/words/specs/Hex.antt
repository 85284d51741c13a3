-- Bytes as hexadecimal digits: each padded to two with a 0, as the library writes a byte by {:02x} (its lemma `hex_byte` has the two digits one by one).
use Rattle.std.specs.Prelude.{ℕ, List, [], ◌-◌, ◌^◌, false}
use Rattle.std.specs.Fmt.{digits, padded_integral, format_spec}
use Rattle.std.specs.List.{flat_map}

abbrev pub two_digits : ℕ → List ℕ
two_digits b = padded_integral (format_spec 32 0 4 2 (2 ^ 64 - 1)) false [] (digits 16 false b)

abbrev pub hex_text : List ℕ → List ℕ
hex_text s = flat_map two_digits s
