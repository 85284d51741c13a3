-- `row_size::row_size` meets its contract: a turn takes a column and a value, and the steps' laws of row_step say what is left. Assumes nothing.
use Rattle.std.proofs.Common.{◌≡◌, ℕ, ◌+◌, ◌<◌, [], ◌∷◌, length, get_or, sym, subst, arith, length-append}
use Rattle.std.proofs.lemmas.Slice.Zip.{zip_turn, zip_end}
use Rattle.format.specs.Answer.{Answer, gives}
use Rattle.format.specs.Value.{write_value}
use Rattle.wire.proofs.Exit.{exit_is}
use Rattle.column_type.specs.Told.{column_told}
use Rattle.value_kind.specs.Told.{value_told}
use Rattle.columns.specs.None.{no_column, no_value}
use Rattle.row_step.specs.Steps.{size_on}
use Rattle.row_step.proofs.Sizing.{counted, Sized, SizedOn, sizing_begins, sizing_asks, sizing_next, sizing_ends, sizing_refused, start_refused}
use Rattle.row_size.proofs.row_size.Goals.{In-Some}
use Rattle.row_size.proofs.row_size.Goals as goal

pub returns-in_err-sum : goal.returns-in_err-sum
returns-in_err-sum c =
    rw (exit_is _ _ c.from_residual.ensures.1) (start_refused c.args.buffer.now c.args.cols.now c.args.values.now _ (sym c.in_err-sum.ensures))

pub loop-c-init : goal.loop-c-init
loop-c-init c = sizing_begins c.args.buffer.now c.args.cols.now c.args.values.now _ (sym c.in_ok-sum.ensures)

-- this turn's column and value
turn : (c : In-Some) →
    let i = length c.loop-c.yielded in
    (i < length c.args.cols.now) × (i < length c.args.values.now) × (c.in-Some.c.now ≡ get_or c.args.cols.now i no_column)
    × (c.in-Some.v.now ≡ get_or c.args.values.now i no_value)
turn c =
    let first : c.into_iter-c-iterator.result.a.rest.now ≡ c.args.cols.now = cc in
    let second : c.into_iter-c-iterator.result.b.rest.now ≡ c.args.values.now = cc in
    let t = zip_turn c.args.cols.now c.args.values.now c.loop-c.yielded c.into_iter-c-iterator.result c.loop-c.c-iterator c.next.new.self c.next.result
    first second c.loop-c.yielded_by (c.in-Some.c, c.in-Some.v) c.in-Some.is c.next.ensures.steps in
    (t.0, t.1, t.2 no_column, t.3 no_value)

pub size_on-requires : goal.size_on-requires
size_on-requires c =
    sizing_asks c.args.buffer.now c.args.cols.now c.args.values.now _ _ c.loop-c.sum (sym c.in_ok-sum.ensures) (turn (goal.at.size_on-requires c).In-Some).0
    c.loop-c.invariant

-- what the step answers
more : (c : In-Some) (r : Answer ℕ)
    → r ≡ size_on (gives c.loop-c.sum) (write_value (column_told c.args.buffer.now c.in-Some.c.now) (value_told c.args.buffer.now c.in-Some.v.now))
    → SizedOn c.args.buffer.now c.args.cols.now c.args.values.now (length c.loop-c.yielded + 1) r
more c r e =
    let t = turn c in
    sizing_next c.args.buffer.now c.args.cols.now c.args.values.now (length c.loop-c.yielded) c.loop-c.sum r c.in-Some.c.now c.in-Some.v.now t.0 t.1
    c.loop-c.invariant t.2 t.3 e

pub returns-in_err-sum-2 : goal.returns-in_err-sum-2
returns-in_err-sum-2 c =
    rw (exit_is _ _ c.from_residual-in_err-sum-2.ensures.1)
    (sizing_refused c.args.buffer.now c.args.cols.now c.args.values.now _ _ (sym c.in_ok-sum.ensures)
    (more (goal.at.returns-in_err-sum-2 c).In-Some _ c.in_err-sum-2.ensures))

pub loop-c-preserved : goal.loop-c-preserved
loop-c-preserved c =
    subst (λ (i : ℕ). Sized c.args.buffer.now c.args.cols.now c.args.values.now i c.in_ok-sum-2.sum)
    (sym (length-append c.loop-c.yielded ((c.in-Some.c, c.in-Some.v) ∷ [])))
    (more (goal.at.loop-c-preserved c).In-Some _ c.in_ok-sum-2.ensures)

pub returns : goal.returns
returns c =
    let a = c.args in
    let first : c.into_iter-c-iterator.result.a.rest.now ≡ a.cols.now = cc in
    let second : c.into_iter-c-iterator.result.b.rest.now ≡ a.values.now = cc in
    let e = zip_end a.cols.now a.values.now c.loop-c.yielded c.into_iter-c-iterator.result c.loop-c.c-iterator c.next.new.self c.next.result
    first second c.loop-c.yielded_by c.in-None.is c.next.ensures.steps in
    let m = (counted a.buffer.now a.cols.now a.values.now _ (sym c.in_ok-sum.ensures)).1 in
    let n : length c.loop-c.yielded ≡ length a.cols.now = omega (arith, e, m) in
    sizing_ends a.buffer.now a.cols.now a.values.now _ c.loop-c.sum (sym c.in_ok-sum.ensures) (rw n at c.loop-c.invariant)
