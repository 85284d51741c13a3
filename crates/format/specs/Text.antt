-- UTF-8 to UTF-16LE and back, by way of the scalar values that both stand for. The Unicode Standard, 3.9: definitions D91 and D92, tables 3-5 to 3-7.
use Rattle.std.specs.Prelude.{ℕ, zero, suc, ◌+◌, ◌*◌, ◌-◌, ◌/◌, ◌%◌, List, [], ◌∷◌, ◌++◌, Bool, false, not, length, take, drop, ltb, leb, eqb}
use Rattle.lists.specs.Pick.{pick}
use Rattle.format.specs.Answer.{Answer, gives, refuses, Read, took, stops, not_text, sequence, refuse_if, and_then}
use Rattle.format.specs.Number.{low_nat, low_bytes}

-- low ≤ n ≤ high
abbrev pub between : ℕ → ℕ → ℕ → Bool
between low high n = pick (leb low n) (leb n high) false

-- ---- UTF-8

-- A row of table 3-7, "Well-Formed UTF-8 Byte Sequences": the first byte's range, what the first byte is above its marker bits, the second byte's
-- range, and how many bytes of 80..BF follow the second.
pub record Row : Type 0 where
  pub first : ℕ
  pub last : ℕ
  pub marker : ℕ
  pub low : ℕ
  pub high : ℕ
  pub more : ℕ

-- Table 3-7 without its first row, the bytes 00 to 7F that stand alone.
abbrev pub well_formed : List Row
well_formed =
    record { first = 0xC2; last = 0xDF; marker = 0xC0; low = 0x80; high = 0xBF; more = 0 }
    ∷ record { first = 0xE0; last = 0xE0; marker = 0xE0; low = 0xA0; high = 0xBF; more = 1 }
    ∷ record { first = 0xE1; last = 0xEC; marker = 0xE0; low = 0x80; high = 0xBF; more = 1 }
    ∷ record { first = 0xED; last = 0xED; marker = 0xE0; low = 0x80; high = 0x9F; more = 1 }
    ∷ record { first = 0xEE; last = 0xEF; marker = 0xE0; low = 0x80; high = 0xBF; more = 1 }
    ∷ record { first = 0xF0; last = 0xF0; marker = 0xF0; low = 0x90; high = 0xBF; more = 2 }
    ∷ record { first = 0xF1; last = 0xF3; marker = 0xF0; low = 0x80; high = 0xBF; more = 2 }
    ∷ record { first = 0xF4; last = 0xF4; marker = 0xF0; low = 0x80; high = 0x8F; more = 2 }
    ∷ []

-- The bytes that follow a character's second byte, each six bits more: n is what stands before them, taken how many bytes that took.
abbrev pub tail8 : ℕ → ℕ → ℕ → List ℕ → Read ℕ
tail8 zero n taken s = took n taken
tail8 (suc more) n taken [] = stops not_text
tail8 (suc more) n taken (b ∷ s) = pick (between 0x80 0xBF b) (tail8 more (n * 64 + (b - 0x80)) (suc taken) s) (stops not_text)

abbrev pub second8 : Row → ℕ → List ℕ → Read ℕ
second8 r a [] = stops not_text
second8 r a (b ∷ s) = pick (between r.low r.high b) (tail8 r.more ((a - r.marker) * 64 + (b - 0x80)) 2 s) (stops not_text)

abbrev pub among8 : List Row → ℕ → List ℕ → Read ℕ
among8 [] a s = stops not_text
among8 (r ∷ rs) a s = pick (between r.first r.last a) (second8 r a s) (among8 rs a s)

-- One character: its scalar value and how many bytes it took. Refusal 9 where the bytes are not well formed.
unfoldable pub char8 : List ℕ → Read ℕ
char8 [] = stops not_text
char8 (a ∷ s) = pick (ltb a 0x80) (took a 1) (among8 well_formed a s)

-- Table 3-6, "UTF-8 Bit Distribution": the bytes of a scalar value.
unfoldable pub utf8 : ℕ → List ℕ
utf8 c =
    pick (ltb c 0x80) (c ∷ [])
    (pick (ltb c 0x800) ((0xC0 + c / 64) ∷ (0x80 + c % 64) ∷ [])
    (pick (ltb c 0x10000) ((0xE0 + c / 4096) ∷ (0x80 + c / 64 % 64) ∷ (0x80 + c % 64) ∷ [])
    ((0xF0 + c / 262144) ∷ (0x80 + c / 4096 % 64) ∷ (0x80 + c / 64 % 64) ∷ (0x80 + c % 64) ∷ [])))

-- ---- UTF-16LE

-- The unit in front, low byte first.
abbrev pub unit : List ℕ → ℕ
unit s = low_nat (take 2 s)

-- The low surrogate that must follow the high surrogate a.
abbrev pub pair16 : ℕ → List ℕ → Read ℕ
pair16 a s =
    pick (ltb (length s) 2) (stops not_text)
    (pick (between 0xDC00 0xDFFF (unit s)) (took (0x10000 + (a - 0xD800) * 1024 + (unit s - 0xDC00)) 4) (stops not_text))

-- One character: its scalar value and how many bytes it took. Refusal 9 at an unpaired surrogate.
unfoldable pub char16 : List ℕ → Read ℕ
char16 s =
    pick (ltb (length s) 2) (stops not_text)
    (pick (between 0xD800 0xDBFF (unit s)) (pair16 (unit s) (drop 2 s))
    (pick (between 0xDC00 0xDFFF (unit s)) (stops not_text)
    (took (unit s) 2)))

-- Table 3-5, "UTF-16 Bit Distribution": the units of a scalar value, each low byte first.
unfoldable pub utf16 : ℕ → List ℕ
utf16 c =
    pick (ltb c 0x10000) (low_bytes 2 c)
    (low_bytes 2 (0xD800 + (c - 0x10000) / 1024) ++ low_bytes 2 (0xDC00 + (c - 0x10000) % 1024))

-- ---- a text: characters one after another

abbrev pub push : Read ℕ → (ℕ → Answer (List ℕ)) → Answer (List ℕ)
push (took c n) rest = and_then (rest n) (λ cs. gives (c ∷ cs))
push (stops e) rest = refuses e

-- The scalar values of a text, by a reader of one character; `left` bytes in front belong to the character before.
unfoldable pub scalars : (List ℕ → Read ℕ) → ℕ → List ℕ → Answer (List ℕ)
scalars char left [] = gives []
scalars char zero (b ∷ s) = push (char (b ∷ s)) (λ n. scalars char (n - 1) s)
scalars char (suc left) (b ∷ s) = scalars char left s

-- The bytes of scalar values one after another.
unfoldable pub spelled : (ℕ → List ℕ) → List ℕ → List ℕ
spelled spell [] = []
spelled spell (c ∷ cs) = spell c ++ spelled spell cs

-- UTF-8 to UTF-16LE: "text to be written isn't UTF-8" is 9.
unfoldable pub text_in : List ℕ → Answer (List ℕ)
text_in s = and_then (scalars char8 0 s) (λ cs. gives (spelled utf16 cs))

-- UTF-16LE to UTF-8: "Text out checks an odd byte count (8), then 9, then 4."
unfoldable pub text_out : List ℕ → Answer (List ℕ)
text_out s = refuse_if (not (eqb (length s % 2) 0)) sequence (and_then (scalars char16 0 s) (λ cs. gives (spelled utf8 cs)))
