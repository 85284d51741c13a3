-- Copying in runs: what a run holds, what a room and a run show together, and what one value's turn adds to it.
use Rattle.std.specs.Prelude.{ℕ, ◌+◌, ◌-◌, ◌≤◌, ◌≡◌, List, ◌++◌, length, take, drop}
use Rattle.format.specs.Answer.{Read, took, stops}
use Rattle.value_normal.specs.declared.Run.{Run}

-- the bytes that are still to be copied
abbrev pub held : List ℕ → Run → List ℕ
held s r = take (r.at - r.from) (drop r.from s)

-- the bytes that were put, and behind them those that are still to be copied
abbrev pub shown : List ℕ → List ℕ → Run → List ℕ
shown s out r = take r.put out ++ held s r

-- a run that holds nothing yet
abbrev pub run_on : ℕ → ℕ → Run
run_on at put = record { from = at; at = at; put = put }

-- there is a value, it lies inside, and its normal form fits behind what is shown
abbrev pub RunFits : List ℕ → ℕ → Run → Read (List ℕ) → Type 0
RunFits s size r (took bytes n) = (r.from ≤ r.at) × (r.at + n ≤ length s) × (r.put + (r.at - r.from) + length bytes ≤ size)
RunFits s size r (stops e) = ⊥

-- the bytes are shown behind those that were, nothing behind what is put has changed, and the run has passed n bytes more
pub record Grows (s out : List ℕ) (r : Run) (bytes : List ℕ) (n : ℕ) (after : List ℕ) (next : Run) : Type 0 where
  pub shows : shown s after next ≡ shown s out r ++ bytes
  pub behind : drop next.put after ≡ drop next.put out
  pub onward : r.put ≤ next.put
  pub passed : next.at ≡ r.at + n
  pub lies : next.from ≤ next.at
  pub count : next.put + (next.at - next.from) ≡ r.put + (r.at - r.from) + length bytes

abbrev pub RunGrows : List ℕ → List ℕ → Run → Read (List ℕ) → List ℕ → Run → Type 0
RunGrows s out r (took bytes n) after next = Grows s out r bytes n after next
RunGrows s out r (stops e) after next = ⊥
