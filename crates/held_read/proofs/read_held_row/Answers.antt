-- `held_read::read_held_row` meets its contract: the count, then the call that takes a lent list. Assumes nothing.
use mathlib.Core.Path.{refl}
use borrow.Author.Tests.{lt-ltb, le-ltb}
use Rattle.wire.proofs.Exit.{exit_is}
use Rattle.format.specs.Answer.{map_read}
use Rattle.format.specs.Row.{read_row, copied_out_row}
use Rattle.read_step.specs.Told.{first_place}
use Rattle.held_read.specs.Held.{first_columns}
use Rattle.held_read.proofs.Counted.{few_read, many_leaves}
use Rattle.held_read.proofs.read_held_row.Goals as goal

pub returns-in_err-needs : goal.returns-in_err-needs
returns-in_err-needs c =
    let a = c.args in
    let h = lt-ltb 1024 a.count c.if-count-gt1024.true in
    let all = many_leaves a.count a.s.now a.cursor.at h c.in_err-needs.ensures (λ b. read_row (first_columns b a.cols a.count))
    (λ b. copied_out_row (first_columns b a.cols a.count)) (λ vs. first_place a.cursor.at) a.out.now
    (map_read (λ n. first_place a.cursor.at)) (λ e. refl) refl in record {
      told = λ b. rw (exit_is _ _ c.from_residual.ensures.1) (all.0 b);
      room = all.1;
    }

pub returns-clause-told : goal.returns-clause-told
returns-clause-told c b =
    let a = c.args in
    rw (few_read a.count (read_row (first_columns b a.cols a.count)) a.s.now a.cursor.at (le-ltb 1024 a.count c.if-count-gt1024.false))
    (c.read_row.ensures.told b)
