-- The loop's invariant is `Judged` of judge_step: what is left of the columns needs, beside what is needed so far, what the whole row needs.
use Rattle.judge_step.proofs.Judging.{Judged}
use Rattle.row_judge.proofs.judge_row.Given as goal

abbrev pub invariant-loop-c : goal.invariant-loop-c
invariant-loop-c l = Judged l.cols l.s l.fn.cursor.at l.c-index l.row
