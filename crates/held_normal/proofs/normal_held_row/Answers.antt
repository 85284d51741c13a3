-- `held_normal::normal_held_row` meets its contract: the count, then the call that takes a lent list. Assumes nothing.
use mathlib.Core.Path.{refl}
use borrow.Author.Tests.{lt-ltb}
use lib.ListN.{length}
use Rattle.wire.proofs.Exit.{exit_is}
use Rattle.format.specs.Answer.{map_read}
use Rattle.format.specs.Normal.{normal}
use Rattle.value_weigh.specs.Told.{Needs}
use Rattle.held_read.specs.Held.{first_columns}
use Rattle.held_read.proofs.Counted.{many_leaves}
use Rattle.held_normal.proofs.normal_held_row.Goals as goal

pub returns-in_err-needs : goal.returns-in_err-needs
returns-in_err-needs c =
    let a = c.args in
    let h = lt-ltb 1024 a.count c.if-count-gt1024.true in
    let all = many_leaves a.count a.s.now a.cursor.at h c.in_err-needs.ensures (λ b. normal (first_columns b a.cols a.count))
    (λ b bytes. bytes) length a.out.now (map_read (λ (n : Needs). n.normal)) (λ e. refl) refl in record {
      answer = λ b. rw (exit_is _ _ c.from_residual.ensures.1) (all.0 b);
      room = all.1;
    }

pub returns-then-count-gt1024 : goal.returns-then-count-gt1024
returns-then-count-gt1024 c =
    let a = c.args in
    let h = lt-ltb 1024 a.count c.if-count-gt1024.true in
    let all = many_leaves a.count a.s.now a.cursor.at h c.in_ok-needs.ensures (λ b. normal (first_columns b a.cols a.count))
    (λ b bytes. bytes) length a.out.now (map_read (λ (n : Needs). n.normal)) (λ e. refl) refl in record {
      answer = all.0;
      room = all.1;
    }
