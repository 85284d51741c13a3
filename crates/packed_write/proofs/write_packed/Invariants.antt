-- The loop's invariant is `Filled` of row_step, over the columns and the values that the numbers stand for.
use mathlib.Core.Path.{◌≡◌}
use mathlib.Core.List.{List}
use Prim.Native.Nat.{ℕ}
use Rattle.format.specs.Answer.{Answer, gives}
use Rattle.row_step.proofs.Filling.{answer, Filled}
use Rattle.packed.specs.Made.{table_made}
use Rattle.packed_value.specs.Made.{givens_made}
use Rattle.packed_write.proofs.write_packed.Given as goal

-- the row that is asked for, in a room
abbrev pub row : List ℕ → List ℕ → List ℕ → List ℕ → Answer (List ℕ)
row out₀ table values buffer = answer buffer (table_made table) (givens_made values) out₀

abbrev pub invariant-loop-i : goal.invariant-loop-i
invariant-loop-i l =
    (j : List ℕ) (h : row l.initial.out l.table l.values l.buffer ≡ gives j)
    → Filled l.buffer (table_made l.table) (givens_made l.values) l.initial.out j h l.i l.at l.out
