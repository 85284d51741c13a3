-- `packed_size::size_judged` meets its contract: at each turn the sizes so far, with what is left, are the row's size (`Sized` of row_step, over the columns
-- and the values that the numbers stand for). Assumes nothing.
use mathlib.Core.Path.{◌≡◌, sym, ap, ◌∙◌}
use Prim.Native.Nat.{ℕ, ◌+◌, ◌*◌, ◌<◌}
use native.Mathlib.Omega.{arith}
use lib.ListN.{length, drop}
use Rattle.format.specs.Answer.{Answer, gives, wrote}
use Rattle.wire.specs.Told.{answer_told}
use Rattle.wire.proofs.Exit.{exit_is}
use Rattle.row_step.specs.Steps.{start_of, size_on}
use Rattle.row_step.proofs.Sizing.{counted, SizedOn, sizing_begins, sizing_asks, sizing_next, sizing_ends, sizing_refused, start_refused}
use Rattle.packed.specs.Each.{parts_of}
use Rattle.packed.specs.Made.{column_made, no_name, table_made}
use Rattle.packed.proofs.Table.{columns-counted, column_there, column_made_lem}
use Rattle.packed_value.specs.Made.{given_made, givens_made}
use Rattle.packed_value.proofs.Listed.{whole, given_made_lem, givens-counted}
use Rattle.packed_value.proofs.Told.{row_told_lem}
use Rattle.plain_write.specs.Bytes.{written_at}
use Rattle.packed_size.proofs.size_judged.Goals.{After-start, In_ok-sum, In-loop-i}
use Rattle.packed_size.proofs.size_judged.Goals as goal

-- the counts are those of the lists
begun : (c : After-start) → answer_told c.start.result ≡ start_of (length (table_made c.args.table.now)) (length (givens_made c.args.values.now))
begun c =
    let a = c.args in
    rw (columns-counted a.table.now, givens-counted a.values.now) (rw (c.records-columns.ensures, c.count.ensures) at c.start.ensures)

let_through : (c : In_ok-sum) → start_of (length (table_made c.args.table.now)) (length (givens_made c.args.values.now)) ≡ gives c.in_ok-sum.sum
let_through c = sym (begun (goal.at.In_ok-sum c).After-start) ∙ ap answer_told c.in_ok-sum.was

pub returns-in_err-sum : goal.returns-in_err-sum
returns-in_err-sum c =
    let a = c.args in
    let e = sym (begun (goal.at.returns-in_err-sum c).After-start) ∙ ap answer_told c.in_err-sum.was in
    rw (exit_is _ _ c.from_residual.ensures.1)
    (start_refused a.buffer.now (table_made a.table.now) (givens_made a.values.now) _ e ∙ ap wrote (row_told_lem a.buffer.now a.table.now a.values.now))

pub loop-i-init : goal.loop-i-init
loop-i-init c =
    let a = c.args in
    sizing_begins a.buffer.now (table_made a.table.now) (givens_made a.values.now) _ (let_through (goal.at.loop-i-init c).In_ok-sum)

-- a turn has a column and a value
has-column : (c : In-loop-i) → c.loop-i.i < length (table_made c.args.table.now)
has-column c = rw (columns-counted c.args.table.now, ← c.records-columns.ensures) c.loop-i-test.true

has_value : (c : In-loop-i) → c.loop-i.i < length (givens_made c.args.values.now)
has_value c =
    let a = c.args in
    let m = (counted a.buffer.now (table_made a.table.now) (givens_made a.values.now) _ (let_through (goal.at.In-loop-i c).In_ok-sum)).1 in
    omega (arith, m, has-column c)

has_parts : (c : In-loop-i) → c.loop-i.i < parts_of 3 (length c.args.values.now)
has_parts c = rw givens-counted at (has_value c)

pub size_at-requires : goal.size_at-requires
size_at-requires c =
    let a = c.args in
    let i = c.loop-i.i in
    let t = (goal.at.size_at-requires c).In-loop-i in (
      column_there a.table.now i (has-column t),
      whole a.values.now i (has_parts t) c.requires,
      sizing_asks a.buffer.now (table_made a.table.now) (givens_made a.values.now) _ i c.loop-i.sum (let_through (goal.at.size_at-requires c).In_ok-sum)
          (has-column t) c.loop-i.invariant,
    )

-- what the step answers
more : (c : In-loop-i) (r : Answer ℕ) → r ≡ size_on (gives c.loop-i.sum) (written_at c.args.table.now c.args.values.now c.args.buffer.now c.loop-i.i)
    → SizedOn c.args.buffer.now (table_made c.args.table.now) (givens_made c.args.values.now) (c.loop-i.i + 1) r
more c r e =
    let a = c.args in
    let i = c.loop-i.i in
    sizing_next a.buffer.now (table_made a.table.now) (givens_made a.values.now) i c.loop-i.sum r
    (column_made (drop (16 * i) a.table.now) no_name no_name no_name) (given_made (drop (3 * i) a.values.now)) (has-column c) (has_value c)
    c.loop-i.invariant (column_made_lem a.table.now i (has-column c)) (given_made_lem a.values.now i (has_parts c)) e

pub returns-in_err-sum-2 : goal.returns-in_err-sum-2
returns-in_err-sum-2 c =
    let a = c.args in
    rw (exit_is _ _ c.from_residual-in_err-sum-2.ensures.1)
    (sizing_refused a.buffer.now (table_made a.table.now) (givens_made a.values.now) _ _ (let_through (goal.at.returns-in_err-sum-2 c).In_ok-sum)
    (more (goal.at.returns-in_err-sum-2 c).In-loop-i _ c.in_err-sum-2.ensures)
    ∙ ap wrote (row_told_lem a.buffer.now a.table.now a.values.now))

pub loop-i-preserved : goal.loop-i-preserved
loop-i-preserved c = more (goal.at.loop-i-preserved c).In-loop-i _ c.in_ok-sum-2.ensures

pub returns : goal.returns
returns c =
    let a = c.args in
    let z : c.loop-i.i ≡ c.records-columns.result = omega arith in
    let n : c.loop-i.i ≡ length (table_made a.table.now) = z ∙ (c.records-columns.ensures ∙ sym (columns-counted a.table.now)) in
    sizing_ends a.buffer.now (table_made a.table.now) (givens_made a.values.now) _ c.loop-i.sum (let_through (goal.at.returns c).In_ok-sum)
    (rw n at c.loop-i.invariant)
    ∙ ap wrote (row_told_lem a.buffer.now a.table.now a.values.now)
