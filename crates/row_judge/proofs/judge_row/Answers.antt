-- `row_judge::judge_row` meets its contract: a turn takes a column, and the steps' laws of judge_step say what is left. Assumes nothing.
use Rattle.std.proofs.Common.{◌≡◌, Ok, Err, length, arith}
use Rattle.std.proofs.lemmas.List.{get_or_default}
use Rattle.columns.specs.None.{no_column}
use Rattle.wire.proofs.Exit.{exit_is}
use Rattle.judge_step.proofs.Judging.{judging_begins, judging_next, judging_ends, start_refused}
use Rattle.row_judge.proofs.judge_row.Goals as goal

pub returns-in_err-row : goal.returns-in_err-row
returns-in_err-row c =
    let a = c.args in
    λ b. rw (exit_is _ _ c.from_residual.ensures.1) (start_refused a.cols.now a.s.now a.cursor.at _ c.in_err-row.ensures b)

pub loop-c-init : goal.loop-c-init
loop-c-init c =
    let a = c.args in
    judging_begins a.cols.now a.s.now a.cursor.at c.in_ok-row.row c.in_ok-row.ensures

pub judge_on-requires : goal.judge_on-requires
judge_on-requires c = c.loop-c.invariant.1

pub loop-c-preserved : goal.loop-c-preserved
loop-c-preserved c =
    let a = c.args in
    judging_next a.cols.now a.s.now a.cursor.at c.loop-c.c-index c.loop-c.row (Ok c.in_ok-row-2.row) _
    c.loop-c-test.true c.loop-c.invariant (get_or_default a.cols.now c.loop-c.c-index _ no_column c.loop-c-test.true)
    c.in_ok-row-2.ensures.told c.in_ok-row-2.ensures.inside

pub returns-in_err-row-2 : goal.returns-in_err-row-2
returns-in_err-row-2 c =
    let a = c.args in
    λ b. rw (exit_is _ _ c.from_residual-in_err-row-2.ensures.1)
    (judging_next a.cols.now a.s.now a.cursor.at c.loop-c.c-index c.loop-c.row (Err _) _
    c.loop-c-test.true c.loop-c.invariant (get_or_default a.cols.now c.loop-c.c-index _ no_column c.loop-c-test.true)
    c.in_err-row-2.ensures.told tt b)

pub returns : goal.returns
returns c =
    let a = c.args in
    let e : c.loop-c.c-index ≡ length a.cols.now = omega arith in
    judging_ends a.cols.now a.s.now a.cursor.at c.loop-c.row (rw e at c.loop-c.invariant)
