-- `held::write_held_row` meets its contract: both counts, then the call that takes lent lists. Assumes nothing.
use Rattle.wire.proofs.Exit.{exit_is}
use Rattle.wire.proofs.Writing.{refused_before}
use Rattle.held.specs.Held.{first_row, write_held}
use Rattle.held.proofs.Counted.{many}
use Rattle.held.proofs.write_held_row.Goals as goal

pub returns-in_err-counts : goal.returns-in_err-counts
returns-in_err-counts c =
    let a = c.args in
    let t = refused_before (write_held a.buffer.now a.cols a.count a.values a.given) a.out.now _
    (many a.count a.given _ (first_row a.buffer.now a.cols a.count a.values a.given) c.in_err-counts.ensures.told) in
    record { answer = rw (exit_is _ _ c.from_residual.ensures.1) t.0; room = t.1 }
