-- `board_number::number_of` meets its contract: a width and an order that are known, and what the layer below reads by them. Assumes nothing.
use Rattle.wire.proofs.Exit.{exit_is}
use Rattle.board_number.proofs.Laws.{no_width, number_is}
use Rattle.board_number.proofs.number_of.Goals as goal

pub returns-in_err-w : goal.returns-in_err-w
returns-in_err-w c =
    let a = c.args in
    rw (exit_is _ _ c.from_residual.ensures.1) (no_width a.width a.high a.bytes.now a.at _ c.in_err-w.ensures)

pub returns-then-branch : goal.returns-then-branch
returns-then-branch c =
    let a = c.args in
    number_is a.width a.high a.bytes.now a.at _ _ _ c.in_ok-w.ensures (rw c.from.ensures at c.in_ok-flag.ensures) (rw c.if-branch.true c.high.ensures.0)

pub returns-else-branch : goal.returns-else-branch
returns-else-branch c =
    let a = c.args in
    number_is a.width a.high a.bytes.now a.at _ _ _ c.in_ok-w.ensures (rw c.from.ensures at c.in_ok-flag.ensures) (rw c.if-branch.false c.low.ensures.0)
