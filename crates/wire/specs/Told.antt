-- What this crate's declared types tell, in the words of `format`: document 01's number or values for each case of an enum.
use Rattle.std.specs.Prelude.{ℕ, ◌<◌, ◌≤◌, List, [], ◌∷◌, ◌++◌, length, take, drop, Result, Ok, Err}
use Rattle.lists.specs.Pick.{pick}
use Rattle.format.specs.Answer.{Answer, gives, refuses, Read, took, stops, map_read}
use Rattle.format.specs.Answer as A
use Rattle.format.specs.Header.{listed}
use Rattle.format.specs.Number.{high_nat, high_bytes, read_bytes}
use Rattle.format.specs.Guid.{guid_order}
use Rattle.wire.specs.declared.Refusal.{Refusal}
use Rattle.wire.specs.declared.Refusal.TheVariants as R
use Rattle.wire.specs.declared.Width.{Width}
use Rattle.wire.specs.declared.Width.TheVariants as Widths
use Rattle.wire.specs.declared.Cursor.{Cursor}
use Rattle.wire.specs.declared.Guid.{Guid}

-- the refusals, by document 01's table
abbrev pub refusal_told : Refusal → A.Refusal
refusal_told R.Missing = A.missing
refusal_told R.Unknown = A.unknown
refusal_told R.Kind = A.kind
refusal_told R.Room = A.room
refusal_told R.Long = A.long
refusal_told R.Rule = A.rule
refusal_told R.NotCarried = A.not_carried
refusal_told R.Sequence = A.sequence
refusal_told R.NotText = A.not_text

-- what a call answers: a value, or one refusal
abbrev pub answer_told : {A : Type 0} → Result A Refusal → Answer A
answer_told (Ok v) = gives v
answer_told (Err e) = refuses (refusal_told e)

-- an answer that gives bytes, and room for them: what a writing pass asks of its caller
abbrev pub Fitting : Answer (List ℕ) → ℕ → Type 0
Fitting (gives bytes) n = length bytes ≤ n
Fitting (refuses e) n = ⊥

abbrev pub width_of : Width → ℕ
width_of Widths.One = 1
width_of Widths.Two = 2
width_of Widths.Four = 4
width_of Widths.Eight = 8

-- the widths that numbers have, in bytes
abbrev pub widths : List ℕ
widths = 1 ∷ 2 ∷ 4 ∷ 8 ∷ []

-- a number that is listed, or refusal 2
unfoldable pub known : List ℕ → ℕ → Answer ℕ
known list n = pick (listed list n) (gives n) (refuses A.unknown)

abbrev pub width_told : Result Width Refusal → Answer ℕ
width_told (Ok w) = gives (width_of w)
width_told (Err e) = refuses (refusal_told e)

-- what was read, and the next place
abbrev pub read_told : {A : Type 0} → Result (A × Cursor) Refusal → Read A
read_told (Ok (v, c)) = took v c.at
read_told (Err e) = stops (refusal_told e)

-- a number that was read lies below a bound
abbrev pub NumberBelow : ℕ → Result (ℕ × Cursor) Refusal → Type 0
NumberBelow b (Ok (n, c)) = n < b
NumberBelow b (Err e) = Unit {0}

-- ---- a GUID is two numbers: its sixteen bytes in text order, and the GUID that sixteen bytes in wire order stand for

abbrev pub guid_bytes : Guid → List ℕ
guid_bytes g = high_bytes 8 g.high ++ high_bytes 8 g.low

unfoldable pub guid_wire : Guid → List ℕ
guid_wire g = guid_order (guid_bytes g)

unfoldable pub guid_text : List ℕ → Guid
guid_text s = record { high = high_nat (take 8 (guid_order s)); low = high_nat (drop 8 (guid_order s)) }

unfoldable pub read_guid : List ℕ → Read Guid
read_guid s = map_read guid_text (read_bytes 16 s)

unfoldable pub write_guid : Guid → Answer (List ℕ)
write_guid g = gives (guid_wire g)
