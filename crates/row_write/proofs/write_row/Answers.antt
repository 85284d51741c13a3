-- `row_write::write_row` meets its contract: a turn takes a column and a value, and the steps' laws of row_step say what is written. Assumes nothing.
use Rattle.std.proofs.Common.{◌≡◌, ℕ, ◌<◌, List, [], ◌∷◌, length, get_or, sym, subst, arith, length-append}
use Rattle.std.proofs.lemmas.Slice.Zip.{zip_turn, zip_end}
use Rattle.format.specs.Answer.{gives, wrote}
use Rattle.wire.proofs.Exit.{exit_is}
use Rattle.columns.specs.None.{no_column, no_value}
use Rattle.row_step.proofs.Sizing.{asked}
use Rattle.row_step.proofs.Filling.{answer, refused_out, long_out, given_out, Filled, filling_begins, as_many, filling_asks_of, filling_next, filling_ends}
use Rattle.row_write.proofs.write_row.Goals.{In-Some, Else-out-size}
use Rattle.row_write.proofs.write_row.Goals as goal

pub returns-in_err-size : goal.returns-in_err-size
returns-in_err-size c =
    let a = c.args in
    let t = refused_out (asked a.buffer.now a.cols.now a.values.now) a.out.now _ c.in_err-size.ensures in
    record { answer = rw (exit_is _ _ c.from_residual.ensures.1) t.0; room = t.1 }

pub returns-then-out-size : goal.returns-then-out-size
returns-then-out-size c =
    let a = c.args in
    let t = long_out (asked a.buffer.now a.cols.now a.values.now) a.out.now c.in_ok-size.size c.in_ok-size.ensures c.if-out-size.true in
    record { answer = t.0; room = t.1 }

-- the row's bytes
row : (c : Else-out-size) →
    let a = c.args in
    let x = answer a.buffer.now a.cols.now a.values.now a.out.now in
    (j : List ℕ) × (x ≡ gives j) × (gives c.in_ok-size.size ≡ wrote x)
row c =
    let a = c.args in
    given_out (asked a.buffer.now a.cols.now a.values.now) a.out.now c.in_ok-size.size c.in_ok-size.ensures c.if-out-size.false

pub loop-c-init : goal.loop-c-init
loop-c-init c =
    let a = c.args in
    λ j h. filling_begins a.buffer.now a.cols.now a.values.now a.out.now j h

-- this turn's column and value
turn : (c : In-Some) →
    let i = length c.loop-c.yielded in
    (i < length c.args.cols.now) × (c.in-Some.c.now ≡ get_or c.args.cols.now i no_column) × (c.in-Some.v.now ≡ get_or c.args.values.now i no_value)
turn c =
    let first : c.into_iter-c-iterator.result.a.rest.now ≡ c.args.cols.now = cc in
    let second : c.into_iter-c-iterator.result.b.rest.now ≡ c.args.values.now = cc in
    let t = zip_turn c.args.cols.now c.args.values.now c.loop-c.yielded c.into_iter-c-iterator.result c.loop-c.c-iterator c.next.new.self c.next.result
    first second c.loop-c.yielded_by (c.in-Some.c, c.in-Some.v) c.in-Some.is c.next.ensures.steps in
    (t.0, t.2 no_column, t.3 no_value)

pub fill_on-at-requires : goal.fill_on-at-requires
fill_on-at-requires c =
    let a = c.args in
    let r = row (goal.at.fill_on-at-requires c).Else-out-size in
    let t = turn (goal.at.fill_on-at-requires c).In-Some in
    filling_asks_of a.buffer.now a.cols.now a.values.now a.out.now r.0 r.1 (length c.loop-c.yielded) c.loop-c.at c.loop-c.out c.in-Some.c.now c.in-Some.v.now
    t.0 (c.loop-c.invariant r.0 r.1) t.1 t.2

pub loop-c-preserved : goal.loop-c-preserved
loop-c-preserved c =
    let a = c.args in
    let t = turn (goal.at.loop-c-preserved c).In-Some in
    λ j h.
    subst (λ (i : ℕ). Filled a.buffer.now a.cols.now a.values.now a.out.now j h i c.fill_on-at.result c.fill_on-at.new.out)
    (sym (length-append c.loop-c.yielded ((c.in-Some.c, c.in-Some.v) ∷ [])))
    (filling_next a.buffer.now a.cols.now a.values.now a.out.now j h (length c.loop-c.yielded) c.loop-c.at c.fill_on-at.result c.loop-c.out
    c.fill_on-at.new.out c.in-Some.c.now c.in-Some.v.now t.0 (c.loop-c.invariant j h) t.1 t.2 c.fill_on-at.ensures.0 c.fill_on-at.ensures.1)

pub returns : goal.returns
returns c =
    let a = c.args in
    let r = row (goal.at.returns c).Else-out-size in
    let first : c.into_iter-c-iterator.result.a.rest.now ≡ a.cols.now = cc in
    let second : c.into_iter-c-iterator.result.b.rest.now ≡ a.values.now = cc in
    let e = zip_end a.cols.now a.values.now c.loop-c.yielded c.into_iter-c-iterator.result c.loop-c.c-iterator c.next.new.self c.next.result
    first second c.loop-c.yielded_by c.in-None.is c.next.ensures.steps in
    let m = as_many a.buffer.now a.cols.now a.values.now a.out.now r.0 r.1 in
    let n : length c.loop-c.yielded ≡ length a.cols.now = omega (arith, e, m) in
    record {
      answer = r.2;
      room = filling_ends a.buffer.now a.cols.now a.values.now a.out.now r.0 r.1 c.loop-c.at c.loop-c.out (rw n at (c.loop-c.invariant r.0 r.1));
    }
