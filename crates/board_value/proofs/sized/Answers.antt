-- `board_value::sized` meets its contract: numbers that are a value, and its size. Assumes nothing.
use mathlib.Core.Path.{sym, ap, ◌∙◌}
use Rattle.format.specs.Answer.{wrote}
use Rattle.wire.proofs.Exit.{exit_is}
use Rattle.board_value.proofs.Laws.{typed_is, typed_not}
use Rattle.board_value.proofs.sized.Goals as goal

pub returns : goal.returns
returns c =
    let a = c.args in
    let fine = sym c.in_ok-judge_value.ensures in
    c.value_size.ensures ∙ ap wrote (typed_is a.value.now a.buffer.now a.column.now _ _ c.column_at-c.ensures c.value_at-v.ensures fine)

pub returns-in_err-judge_value : goal.returns-in_err-judge_value
unfolding wrote
returns-in_err-judge_value c =
    let a = c.args in
    rw (exit_is _ _ c.from_residual.ensures.1) (ap wrote (typed_not a.value.now a.buffer.now a.column.now _ c.in_err-judge_value.ensures))
