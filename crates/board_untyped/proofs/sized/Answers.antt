-- `board_untyped::sized` meets its contract: numbers that are a value, and its size. Assumes nothing.
use mathlib.Core.Path.{sym, ap, ◌∙◌}
use Rattle.format.specs.Answer.{wrote}
use Rattle.wire.proofs.Exit.{exit_is}
use Rattle.board_untyped.proofs.Laws.{untyped_is, untyped_not}
use Rattle.board_untyped.proofs.sized.Goals as goal

pub returns : goal.returns
returns c =
    let a = c.args in
    c.untyped_size.ensures ∙ ap wrote (untyped_is a.value.now a.buffer.now _ c.value_at-v.ensures (sym c.in_ok-judge_value.ensures))

pub returns-in_err-judge_value : goal.returns-in_err-judge_value
unfolding wrote
returns-in_err-judge_value c =
    let a = c.args in
    rw (exit_is _ _ c.from_residual.ensures.1) (ap wrote (untyped_not a.value.now a.buffer.now _ c.in_err-judge_value.ensures))
