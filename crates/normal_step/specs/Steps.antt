-- Copying a row to its normal form as the code goes: the first run, one value more. proofs/Copying.antt ties these to `normal`.
use Rattle.std.specs.Prelude.{ℕ, List}
use Rattle.format.specs.Answer.{Read, took, stops, map_read}
use Rattle.format.specs.Descriptor as D
use Rattle.format.specs.Value.{read_value, encode}
use Rattle.value_normal.specs.declared.Run.{Run}
use Rattle.value_normal.specs.Runs.{run_on}

-- the run before the first turn
abbrev pub open_of : Read ℕ → ℕ → Run
open_of (took n next) at = run_on at 0
open_of (stops e) at = run_on 0 0

-- the normal form of a column's value, and how many bytes the value took
abbrev pub normal_value : D.Column → List ℕ → Read (List ℕ)
normal_value c rest = map_read (encode c) (read_value c rest)
