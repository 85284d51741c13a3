-- `packed_judge::judge_packed` meets its contract: at each turn what is left of the table's columns needs, behind the row so far, what the whole row needs
-- (`Judged` of judge_step, over the columns that the table's records stand for). Assumes nothing.
use Rattle.std.specs.Prelude.{Err, Ok, Result}
use mathlib.Core.Path.{◌≡◌, sym, ap, ◌∙◌}
use mathlib.Core.List.{List, []}
use Prim.Native.Nat.{ℕ, ◌+◌, ◌<◌, ◌*◌}
use native.Mathlib.Omega.{arith}
use lib.ListN.{length, drop}
use Rattle.format.specs.Answer.{Read, map_read, read_at}
use Rattle.format.specs.Descriptor as D
use Rattle.format.specs.Row.{read_row}
use Rattle.wire.proofs.Exit.{exit_is}
use Rattle.column_type.specs.Told.{column_told}
use Rattle.value_weigh.specs.Told.{Needs}
use Rattle.judge_step.specs.declared.RowNeeds.{RowNeeds}
use Rattle.judge_step.specs.Told.{needs_of, row_judged_told}
use Rattle.judge_step.specs.Steps.{judge_on, start_of, Inside}
use Rattle.judge_step.proofs.Judging.{JudgedOn, judging_begins, judging_next, judging_ends, start_refused}
use Rattle.packed.specs.Made.{column_made, no_name, table_made}
use Rattle.packed.proofs.Table.{columns-counted, column_there, column_made_lem}
use Rattle.packed.proofs.Told.{table_told}
use Rattle.wire.specs.declared.Refusal.{Refusal}
use Rattle.packed_judge.proofs.judge_packed.Goals.{After-start, In-loop-i}
use Rattle.packed_judge.proofs.judge_packed.Goals as goal

-- what a row needs
abbrev needed : List D.Column → List ℕ → ℕ → Read Needs
needed cs s at = map_read (needs_of cs) (read_at (read_row cs) s at)

-- the counts are those of the table
begun : (c : After-start) → row_judged_told c.start.result ≡ start_of (length (table_made c.args.table.now)) (length c.args.s.now) c.args.cursor.at
begun c = rw (columns-counted c.args.table.now) (rw c.records-columns.ensures at c.start.ensures)

pub returns-in_err-row : goal.returns-in_err-row
returns-in_err-row c =
    let a = c.args in
    let e = ap row_judged_told (sym c.in_err-row.was) ∙ begun (goal.at.returns-in_err-row c).After-start in
    rw (exit_is _ _ c.from_residual.ensures.1)
    (start_refused (table_made a.table.now) a.s.now a.cursor.at _ e []
    ∙ ap (λ (cs : List D.Column). needed cs a.s.now a.cursor.at) (table_told [] a.table.now))

pub loop-i-init : goal.loop-i-init
loop-i-init c =
    let a = c.args in
    judging_begins (table_made a.table.now) a.s.now a.cursor.at c.in_ok-row.row
    (ap row_judged_told (sym c.in_ok-row.was) ∙ begun (goal.at.loop-i-init c).After-start)

-- a turn has a column
has-column : (c : In-loop-i) → c.loop-i.i < length (table_made c.args.table.now)
has-column c = rw (columns-counted c.args.table.now, ← c.records-columns.ensures) c.loop-i-test.true

pub judge_at-requires : goal.judge_at-requires
judge_at-requires c =
    (column_there c.args.table.now c.loop-i.i (has-column (goal.at.judge_at-requires c).In-loop-i), c.loop-i.invariant.1)

-- what the step answers
more : (c : In-loop-i) (x : Result RowNeeds Refusal)
    → ((b : List ℕ) → row_judged_told x ≡ judge_on (column_told b (column_made (drop (16 * c.loop-i.i) c.args.table.now) no_name no_name no_name))
    c.args.s.now (row_judged_told (Ok c.loop-i.row)))
    → Inside (length c.args.s.now) (row_judged_told x) → JudgedOn (table_made c.args.table.now) c.args.s.now c.args.cursor.at (c.loop-i.i + 1) x
more c x told inside =
    let a = c.args in
    let i = c.loop-i.i in
    judging_next (table_made a.table.now) a.s.now a.cursor.at i c.loop-i.row x (column_made (drop (16 * i) a.table.now) no_name no_name no_name)
    (has-column c) c.loop-i.invariant (column_made_lem a.table.now i (has-column c)) told inside

pub loop-i-preserved : goal.loop-i-preserved
loop-i-preserved c = more (goal.at.loop-i-preserved c).In-loop-i (Ok c.in_ok-row-2.row) c.in_ok-row-2.ensures.told c.in_ok-row-2.ensures.inside

pub returns-in_err-row-2 : goal.returns-in_err-row-2
returns-in_err-row-2 c =
    let a = c.args in
    rw (exit_is _ _ c.from_residual-in_err-row-2.ensures.1)
    (more (goal.at.returns-in_err-row-2 c).In-loop-i (Err _) c.in_err-row-2.ensures.told tt []
    ∙ ap (λ (cs : List D.Column). needed cs a.s.now a.cursor.at) (table_told [] a.table.now))

pub returns : goal.returns
returns c =
    let a = c.args in
    let z : c.loop-i.i ≡ c.records-columns.result = omega arith in
    let n : c.loop-i.i ≡ length (table_made a.table.now) = z ∙ (c.records-columns.ensures ∙ sym (columns-counted a.table.now)) in
    judging_ends (table_made a.table.now) a.s.now a.cursor.at c.loop-i.row (rw n at c.loop-i.invariant) []
    ∙ ap (λ (cs : List D.Column). needed cs a.s.now a.cursor.at) (table_told [] a.table.now)
