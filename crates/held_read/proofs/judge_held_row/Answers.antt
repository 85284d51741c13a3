-- `held_read::judge_held_row` meets its contract: the count, then the call that takes a lent list. Assumes nothing.
use mathlib.Core.Path.{refl}
use borrow.Author.Tests.{lt-ltb}
use Rattle.format.specs.Answer.{map_read}
use Rattle.format.specs.Row.{read_row}
use Rattle.judge_step.specs.Told.{needs_of}
use Rattle.held_read.specs.Held.{first_columns}
use Rattle.held_read.proofs.Counted.{many_read}
use Rattle.held_read.proofs.judge_held_row.Goals as goal

pub returns-then-count-gt1024 : goal.returns-then-count-gt1024
returns-then-count-gt1024 c b =
    let a = c.args in
    let cs = first_columns b a.cols a.count in
    let h = lt-ltb 1024 a.count c.if-count-gt1024.true in
    many_read a.count a.s.now a.cursor.at h c.start.ensures (read_row cs) (λ n. n) (map_read (needs_of cs)) (λ e. refl)
