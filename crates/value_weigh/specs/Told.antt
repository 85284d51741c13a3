-- What a value that was read needs, in the words of `format`: how many content bytes reading copies out, and how many bytes its normal form has.
use Rattle.std.specs.Prelude.{Err, Ok, Result, Option}
use Rattle.std.specs.Prelude.{ℕ, ◌≤◌, List, [], eqb, length}
use Rattle.lists.specs.Pick.{pick}
use Rattle.format.specs.Answer.{Read, took, stops}
use Rattle.format.specs.Descriptor as D
use Rattle.format.specs.Plp.{plp_mark, plp_copied, plp_bytes}
use Rattle.format.specs.Value.{Value, Family, content_of, copied_out, encode, encode_family}
use Rattle.wire.specs.Told.{refusal_told}
use Rattle.wire.specs.declared.Refusal.{Refusal}

pub record Needs : Type 0 where
  pub joined : ℕ
  pub normal : ℕ

abbrev pub needs_for : List ℕ → List ℕ → Needs
needs_for copied form = record { joined = length copied; normal = length form }

-- a value of a column
abbrev pub needs_value : D.Column → Value → Needs
needs_value c v = needs_for (copied_out c v) (encode c v)

-- the same by what it takes of the column: its declared length and its family
abbrev pub copied_in : ℕ → Value → List ℕ
copied_in declared v = pick (eqb declared plp_mark) (content_of v) []

abbrev pub needs_in : ℕ → Option Family → Value → Needs
needs_in declared f v = needs_for (copied_in declared v) (encode_family declared f v)

-- PLP content
abbrev pub plp_needs : Option (List ℕ) → Needs
plp_needs o = needs_for (plp_copied o) (plp_bytes o)

-- what a value needs, and how many bytes it took
abbrev pub weighed_told : Result (ℕ × ℕ × ℕ) Refusal → Read Needs
weighed_told (Ok (n, joined, normal)) = took (record { joined = joined; normal = normal }) n
weighed_told (Err e) = stops (refusal_told e)

-- a value lies inside, and needs no more than it took
abbrev pub Within : List ℕ → Result (ℕ × ℕ × ℕ) Refusal → Type 0
Within s (Ok (n, joined, normal)) = (n ≤ length s) × (joined ≤ n) × (normal ≤ n)
Within s (Err e) = Unit {0}
