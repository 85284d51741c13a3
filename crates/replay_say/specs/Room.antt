-- The room of a call, as cases/PROTOCOL.md has it: full of one byte before the call, and the bytes that differ from it counted afterwards.
use Rattle.std.specs.Prelude.{ℕ, List, not, ◌==◌, replicate, count_by}

-- "Before each call with a room the program fills the room with bytes A5."
abbrev pub filler : ℕ
filler = 0xA5

abbrev pub filled : ℕ → List ℕ
filled n = replicate n filler

-- "How many bytes of the room aren't A5."
abbrev pub changed_in : List ℕ → ℕ
changed_in s = count_by (λ b. not (b == filler)) s
