-- Numbers as bytes, over the width. MS-TDS, "General Rules": BYTE, USHORT, LONG, ULONGLONG; little-endian unless said otherwise.
use Rattle.std.specs.Prelude.{ℕ, zero, suc, ◌+◌, ◌*◌, ◌-◌, ◌/◌, ◌%◌, ◌^◌, List, [], ◌∷◌, ◌++◌, length, take, ltb, ℤ, pos, negsuc}
use Rattle.lists.specs.Pick.{pick}
use Rattle.format.specs.Answer.{Read, took, stops, missing, stop_if}

-- The number that bytes stand for, low byte first.
abbrev pub low_nat : List ℕ → ℕ
low_nat [] = 0
low_nat (b ∷ bs) = b + 256 * low_nat bs

-- The w low bytes of n, low byte first.
abbrev pub low_bytes : ℕ → ℕ → List ℕ
low_bytes zero n = []
low_bytes (suc w) n = n % 256 ∷ low_bytes w (n / 256)

-- The number that bytes stand for, high byte first, behind a number a that was read before them.
abbrev pub high_from : ℕ → List ℕ → ℕ
high_from a [] = a
high_from a (b ∷ bs) = high_from (a * 256 + b) bs

-- The number that bytes stand for, high byte first.
abbrev pub high_nat : List ℕ → ℕ
high_nat bs = high_from 0 bs

-- The w low bytes of n, high byte first.
abbrev pub high_bytes : ℕ → ℕ → List ℕ
high_bytes zero n = []
high_bytes (suc w) n = high_bytes w (n / 256) ++ (n % 256 ∷ [])

-- "Integers are two's complement at their width": the whole number that the number n of w bytes stands for, and back.
unfoldable pub signed : ℕ → ℕ → ℤ
signed w n = pick (ltb n (256 ^ w / 2)) (pos n) (negsuc (256 ^ w - suc n))

unfoldable pub unsigned : ℕ → ℤ → ℕ
unsigned w (pos n) = n
unsigned w (negsuc k) = 256 ^ w - suc k

-- Reading w bytes: 1 where one of them lies behind the input's end.
unfoldable pub read_bytes : ℕ → List ℕ → Read (List ℕ)
read_bytes w s = stop_if (ltb (length s) w) missing (took (take w s) w)

-- Reading a byte, and a number of w bytes.
unfoldable pub read_byte : List ℕ → Read ℕ
read_byte [] = stops missing
read_byte (b ∷ s) = took b 1

unfoldable pub read_low : ℕ → List ℕ → Read ℕ
read_low w s = stop_if (ltb (length s) w) missing (took (low_nat (take w s)) w)

unfoldable pub read_high : ℕ → List ℕ → Read ℕ
read_high w s = stop_if (ltb (length s) w) missing (took (high_nat (take w s)) w)
