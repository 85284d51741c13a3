-- The loop's invariant is `Copying` of normal_step: what the run holds and what is left of the columns give the normal form.
use Rattle.std.proofs.Common.{◌≡◌, ℕ, List}
use Rattle.format.specs.Answer.{took}
use Rattle.normal_step.proofs.Copying.{answer, Copying}
use Rattle.row_normal.proofs.normal_row.Given as goal

abbrev pub invariant-loop-c : goal.invariant-loop-c
invariant-loop-c l =
    (j : List ℕ) (n : ℕ) → answer l.cols l.s l.fn.cursor.at l.initial.out ≡ took j n
    → Copying l.cols l.s l.fn.cursor.at l.initial.out j n l.c-index l.run l.out
