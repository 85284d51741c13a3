-- Writing a row as the code goes: the counts, one size more, one value more. proofs/Sizing.antt and proofs/Filling.antt tie these to `write_row`.
use Rattle.std.specs.Prelude.{ℕ, ◌+◌, ◌*◌, ◌≤◌, List, [], not, length, ltb, eqb}
use Rattle.format.specs.Answer.{Answer, gives, refuses, rule, refuse_if}
use Rattle.format.specs.Row.{max_columns}

-- "A row checks the number of columns (in writing also 6 unless there are as many values)."
abbrev pub start_of : ℕ → ℕ → Answer ℕ
start_of columns values = refuse_if (ltb max_columns columns) rule (refuse_if (not (eqb columns values)) rule (gives 0))

-- the row's size so far, and one value more
abbrev pub size_on : Answer ℕ → Answer (List ℕ) → Answer ℕ
size_on (gives at) (gives bytes) = gives (at + length bytes)
size_on (gives at) (refuses e) = refuses e
size_on (refuses e) a = refuses e

-- No value takes more: content is no longer than its declared length, which has at most four bytes.
abbrev pub most_of : ℕ
most_of = 8589934592

-- the size of that many values
abbrev pub Below : ℕ → Answer ℕ → Type 0
Below turns (gives n) = n ≤ turns * most_of
Below turns (refuses e) = Unit {0}

-- the bytes that an answer gives, and none where it refuses
abbrev pub bytes_in : Answer (List ℕ) → List ℕ
bytes_in (gives bytes) = bytes
bytes_in (refuses e) = []

-- the bytes fit into a room from a place on
abbrev pub FitsAt : Answer (List ℕ) → ℕ → ℕ → Type 0
FitsAt (gives bytes) at size = at + length bytes ≤ size
FitsAt (refuses e) at size = ⊥
