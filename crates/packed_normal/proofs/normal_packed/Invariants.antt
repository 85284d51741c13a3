-- The loop's invariant is `Copying` of normal_step, over the columns that the table's records stand for.
use mathlib.Core.Path.{◌≡◌}
use mathlib.Core.List.{List}
use Prim.Native.Nat.{ℕ}
use Rattle.format.specs.Answer.{took}
use Rattle.normal_step.proofs.Copying.{answer, Copying}
use Rattle.packed.specs.Made.{table_made}
use Rattle.packed_normal.proofs.normal_packed.Given as goal

abbrev pub invariant-loop-i : goal.invariant-loop-i
invariant-loop-i l =
    (j : List ℕ) (n : ℕ) → answer (table_made l.table) l.s l.fn.cursor.at l.initial.out ≡ took j n
    → Copying (table_made l.table) l.s l.fn.cursor.at l.initial.out j n l.i l.run l.out
