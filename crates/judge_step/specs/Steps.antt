-- Judging a row as the code goes: the place, the count, one value more. proofs/Judging.antt ties these to `read_row`.
use Rattle.std.specs.Prelude.{ℕ, ◌+◌, ◌≤◌, List, ltb}
use Rattle.format.specs.Answer.{Read, took, stops, missing, rule, stop_if, map_read, read_at}
use Rattle.format.specs.Descriptor as D
use Rattle.format.specs.Value.{read_value}
use Rattle.format.specs.Row.{max_columns}
use Rattle.value_weigh.specs.Told.{Needs, needs_value}

abbrev pub no_needs : Needs
no_needs = record { joined = 0; normal = 0 }

-- "A place behind the input's end is 1 before anything else." "A row checks the number of columns."
abbrev pub start_of : ℕ → ℕ → ℕ → Read Needs
start_of columns size at = stop_if (ltb size at) missing (stop_if (ltb max_columns columns) rule (took no_needs at))

abbrev pub plus_needs : Needs → Needs → Needs
plus_needs n m = record { joined = n.joined + m.joined; normal = n.normal + m.normal }

-- what the row needs so far, and what one value more does
abbrev pub judge_on : D.Column → List ℕ → Read Needs → Read Needs
judge_on c s (took n at) = map_read (λ v. plus_needs n (needs_value c v)) (read_at (read_value c) s at)
judge_on c s (stops e) = stops e

-- A row so far lies inside, and needs no more bytes than stand before its end.
abbrev pub Inside : ℕ → Read Needs → Type 0
Inside size (took n at) = (at ≤ size) × (n.joined ≤ at) × (n.normal ≤ at)
Inside size (stops e) = Unit {0}
