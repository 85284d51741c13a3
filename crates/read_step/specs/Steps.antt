-- Reading a row as the code goes: one value more. proofs/Joining.antt ties these to `read_row`.
use Rattle.std.specs.Prelude.{ℕ, ◌+◌, ◌≤◌, List, [], length}
use Rattle.format.specs.Answer.{Read, took, stops}
use Rattle.format.specs.Descriptor as D
use Rattle.format.specs.Value.{Value, copied_out}
use Rattle.read_step.specs.Told.{Place}

-- ---- a value of a column that was read: what it copies out, the place behind it, and that the room holds it

abbrev pub copied_in : D.Column → Read Value → List ℕ
copied_in c (took v next) = copied_out c v
copied_in c (stops e) = []

abbrev pub next_in : Read Value → ℕ → ℕ
next_in (took v next) at = next
next_in (stops e) at = at

abbrev pub place_behind : D.Column → Read Value → Place → Place
place_behind c r p = record { at = next_in r p.at; copied = p.copied + length (copied_in c r) }

abbrev pub FitsAt : D.Column → Read Value → ℕ → ℕ → Type 0
FitsAt c (took v next) copied size = copied + length (copied_out c v) ≤ size
FitsAt c (stops e) copied size = ⊥
