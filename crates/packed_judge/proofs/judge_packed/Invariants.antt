-- The loop's invariant is `Judged` of judge_step, over the columns that the table's records stand for.
use Rattle.judge_step.proofs.Judging.{Judged}
use Rattle.packed.specs.Made.{table_made}
use Rattle.packed_judge.proofs.judge_packed.Given as goal

abbrev pub invariant-loop-i : goal.invariant-loop-i
invariant-loop-i l = Judged (table_made l.table) l.s l.fn.cursor.at l.i l.row
