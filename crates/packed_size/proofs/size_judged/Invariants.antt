-- The loop's invariant is `Sized` of row_step, over the columns and the values that the numbers stand for.
use Rattle.row_step.proofs.Sizing.{Sized}
use Rattle.packed.specs.Made.{table_made}
use Rattle.packed_value.specs.Made.{givens_made}
use Rattle.packed_size.proofs.size_judged.Given as goal

abbrev pub invariant-loop-i : goal.invariant-loop-i
invariant-loop-i l = Sized l.buffer (table_made l.table) (givens_made l.values) l.i l.sum
