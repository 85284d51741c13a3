-- The digits of bytes are all ASCII; and where those of one byte stand, behind what stood there.
use Rattle.std.proofs.Common.{◌≡◌, ℕ, suc, ◌+◌, ◌/◌, ◌%◌, ◌<◌, Bool, true, false, nat_lt, if◌then◌else◌, arith}
use Rattle.std.proofs.Common.{List, [], ◌∷◌, ◌++◌, length, take, slice_index, slice_set}
use Rattle.std.specs.Fmt.{digit_glyph}
use Rattle.std.specs.Str.{IsAscii}
use Rattle.std.proofs.lemmas.Fmt.{hex_byte}
use Rattle.std.proofs.lemmas.List.{append_assoc, take_more_set, length-set}
use Rattle.std.proofs.lemmas.Str.{IsAscii-append}
use Rattle.std.proofs.lemmas.Str.Ascii.{IsAscii-nil, IsAscii-cons}
use Rattle.words.specs.Hex.{two_digits, hex_text}

low_of : (small : Bool) (d : ℕ) → d < 16 → (if small then 48 + d else 87 + d) < 128
low_of true d h = omega arith
low_of false d h = omega arith

low_digit : (d : ℕ) → d < 16 → digit_glyph false d < 128
low_digit d h = low_of (nat_lt d 10) d h

two_ascii : (b : ℕ) → b < 256 → IsAscii (two_digits b)
two_ascii b h =
    let low : List ℕ = digit_glyph false (b % 16) ∷ [] in
    rw (hex_byte false b h)
    (IsAscii-cons (digit_glyph false (b / 16)) low (low_digit (b / 16) (omega arith))
    (IsAscii-cons (digit_glyph false (b % 16)) [] (low_digit (b % 16) (omega arith)) IsAscii-nil))

pub ascii : (s : List ℕ) → ((i : ℕ) → slice_index s i < 256) → IsAscii (hex_text s)
ascii [] h = IsAscii-nil
ascii (b ∷ rest) h = IsAscii-append (two_digits b) (hex_text rest) (two_ascii b (h 0)) (ascii rest (λ i. h (suc i)))

-- two digits in a row, seen from the front
pub two_put : (text : List ℕ) (at low b x y : ℕ) → low < length text → low ≡ at + 1 → b < 256
    → x ≡ digit_glyph false (b / 16) → y ≡ digit_glyph false (b % 16)
    → take (low + 1) (slice_set (slice_set text at x) low y) ≡ take at text ++ two_digits b
two_put text at low b x y fits next byte ex ey =
    let len : length (slice_set text at x) ≡ length text = length-set text at x in
    let second = take_more_set (slice_set text at x) low y (omega (arith, len)) in
    let first = take_more_set text at x (omega arith) in
    rw (second, next, first, hex_byte false b byte, ← ex, ← ey) (append_assoc (take at text) (x ∷ []) (y ∷ []))
