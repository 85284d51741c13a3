-- `packed_size::size_packed` meets its contract: the values are judged before anything else. Assumes nothing.
use mathlib.Core.Path.{sym}
use Rattle.format.specs.Answer.{wrote}
use Rattle.wire.proofs.Exit.{exit_is}
use Rattle.packed_size.proofs.size_packed.Goals as goal

pub size_judged-requires : goal.size_judged-requires
size_judged-requires c = sym c.in_ok-judge_values.ensures

pub returns : goal.returns
returns c = rw (← c.in_ok-judge_values.ensures) c.size_judged.ensures

pub returns-in_err-judge_values : goal.returns-in_err-judge_values
unfolding wrote
returns-in_err-judge_values c = rw (exit_is _ _ c.from_residual.ensures.1) (rw (← c.in_err-judge_values.ensures))
