-- `held::held_row_size` meets its contract: both counts, then the call that takes lent lists. Assumes nothing.
use Rattle.wire.proofs.Exit.{exit_is}
use Rattle.held.specs.Held.{first_row}
use Rattle.held.proofs.Counted.{many}
use Rattle.held.proofs.held_row_size.Goals as goal

pub returns-in_err-counts : goal.returns-in_err-counts
returns-in_err-counts c =
    let a = c.args in
    rw (exit_is _ _ c.from_residual.ensures.1) (many a.count a.given _ (first_row a.buffer.now a.cols a.count a.values a.given) c.in_err-counts.ensures.told)
