-- The loop's invariant is `Sized` of row_step: what is left gives, behind the sum so far, what the whole row gives.
use Rattle.std.proofs.Common.{length}
use Rattle.row_step.proofs.Sizing.{Sized}
use Rattle.row_size.proofs.row_size.Given as goal

abbrev pub invariant-loop-c : goal.invariant-loop-c
invariant-loop-c l = Sized l.buffer l.cols l.values (length l.yielded) l.sum
