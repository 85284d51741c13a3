-- `packed_write::write_packed` meets its contract: the size finds every refusal but the room's, and at each turn the room of a row that fits holds the row's
-- first bytes, and what is left writes the others. Assumes nothing.
use mathlib.Core.Path.{◌≡◌, sym, ap, ◌∙◌}
use mathlib.Core.List.{List}
use Prim.Native.Nat.{ℕ, ◌*◌, ◌<◌}
use native.Mathlib.Omega.{arith}
use lib.ListN.{length, drop}
use Rattle.std.specs.Prelude.{None}
use Rattle.format.specs.Answer.{Answer, gives, fitted, wrote, room_after}
use Rattle.wire.proofs.Exit.{exit_is}
use Rattle.row_step.proofs.Sizing.{asked}
use Rattle.row_step.proofs.Filling.{refused_out, long_out, given_out, filling_begins, as_many, filling_asks_of, filling_next, filling_ends}
use Rattle.packed.specs.Each.{parts_of}
use Rattle.packed.specs.Made.{column_made, no_name, table_made}
use Rattle.packed.proofs.Table.{columns-counted, column_there, column_made_lem}
use Rattle.packed_value.specs.Numbers.{no_values}
use Rattle.packed_value.specs.Made.{given_made, givens_made}
use Rattle.packed_value.proofs.Listed.{whole, given_made_lem, givens-counted}
use Rattle.packed_value.proofs.Told.{row_told_lem}
use Rattle.packed_write.proofs.Judged.{judged_fine}
use Rattle.packed_write.proofs.write_packed.Invariants.{row}
use Rattle.packed_write.proofs.write_packed.Goals.{In_ok-size, Else-out-size, In-loop-i}
use Rattle.packed_write.proofs.write_packed.Goals as goal

pub returns-in_err-size : goal.returns-in_err-size
returns-in_err-size c =
    let t = refused_out _ c.args.out.now _ c.in_err-size.ensures in
    record { answer = rw (exit_is _ _ c.from_residual.ensures.1) t.0; room = t.1 }

pub returns-then-out-size : goal.returns-then-out-size
returns-then-out-size c =
    let t = long_out _ c.args.out.now c.in_ok-size.size c.in_ok-size.ensures c.if-out-size.true in
    record { answer = t.0; room = t.1 }

-- the values are fine, and the row has as many bytes as were counted
fine : (c : In_ok-size) → no_values c.args.values.now ≡ None
fine c = judged_fine (no_values c.args.values.now) _ c.in_ok-size.size c.in_ok-size.ensures

sized : (c : In_ok-size) →
    let a = c.args in gives c.in_ok-size.size ≡ wrote (asked a.buffer.now (table_made a.table.now) (givens_made a.values.now))
sized c =
    let a = c.args in
    rw (fine c) at c.in_ok-size.ensures ∙ ap wrote (sym (row_told_lem a.buffer.now a.table.now a.values.now))

-- the row's bytes
bytes : (c : Else-out-size) →
    let a = c.args in
    let x = row a.out.now a.table.now a.values.now a.buffer.now in
    (j : List ℕ) × (x ≡ gives j) × (gives c.in_ok-size.size ≡ wrote x)
bytes c =
    let a = c.args in
    given_out (asked a.buffer.now (table_made a.table.now) (givens_made a.values.now)) a.out.now c.in_ok-size.size (sized (goal.at.Else-out-size c).In_ok-size)
    c.if-out-size.false

pub loop-i-init : goal.loop-i-init
loop-i-init c =
    let a = c.args in
    λ j h. filling_begins a.buffer.now (table_made a.table.now) (givens_made a.values.now) a.out.now j h

-- a turn has a column and a value
has-column : (c : In-loop-i) → c.loop-i.i < length (table_made c.args.table.now)
has-column c = rw (columns-counted c.args.table.now, ← c.records-i-end.ensures) c.loop-i-test.true

has_value : (c : In-loop-i) → c.loop-i.i < parts_of 3 (length c.args.values.now)
has_value c =
    let a = c.args in
    let r = bytes (goal.at.In-loop-i c).Else-out-size in
    let m = as_many a.buffer.now (table_made a.table.now) (givens_made a.values.now) a.out.now r.0 r.1 in
    omega (arith, m, givens-counted a.values.now, has-column c)

pub fill_at-at-requires : goal.fill_at-at-requires
fill_at-at-requires c =
    let a = c.args in
    let i = c.loop-i.i in
    let t = (goal.at.fill_at-at-requires c).In-loop-i in
    let r = bytes (goal.at.fill_at-at-requires c).Else-out-size in (
      column_there a.table.now i (has-column t),
      whole a.values.now i (has_value t) (fine (goal.at.fill_at-at-requires c).In_ok-size),
      filling_asks_of a.buffer.now (table_made a.table.now) (givens_made a.values.now) a.out.now r.0 r.1 i c.loop-i.at c.loop-i.out
          (column_made (drop (16 * i) a.table.now) no_name no_name no_name) (given_made (drop (3 * i) a.values.now)) (has-column t)
          (c.loop-i.invariant r.0 r.1) (column_made_lem a.table.now i (has-column t)) (given_made_lem a.values.now i (has_value t)),
    )

pub loop-i-preserved : goal.loop-i-preserved
loop-i-preserved c =
    let a = c.args in
    let i = c.loop-i.i in
    let t = (goal.at.loop-i-preserved c).In-loop-i in
    λ j h.
    filling_next a.buffer.now (table_made a.table.now) (givens_made a.values.now) a.out.now j h i c.loop-i.at c.fill_at-at.result
    c.loop-i.out c.fill_at-at.new.out (column_made (drop (16 * i) a.table.now) no_name no_name no_name)
    (given_made (drop (3 * i) a.values.now)) (has-column t) (c.loop-i.invariant j h)
    (column_made_lem a.table.now i (has-column t)) (given_made_lem a.values.now i (has_value t)) c.fill_at-at.ensures.0 c.fill_at-at.ensures.1

pub returns : goal.returns
returns c =
    let a = c.args in
    let r = bytes (goal.at.returns c).Else-out-size in
    let z : c.loop-i.i ≡ c.records-i-end.result = omega arith in
    let n : c.loop-i.i ≡ length (table_made a.table.now) = z ∙ (c.records-i-end.ensures ∙ sym (columns-counted a.table.now)) in
    let told = ap (λ (x : Answer (List ℕ)). fitted x (length a.out.now)) (row_told_lem a.buffer.now a.table.now a.values.now) in
    rw (fine (goal.at.returns c).In_ok-size) (record {
      answer = r.2 ∙ ap wrote told;
      room = filling_ends a.buffer.now (table_made a.table.now) (givens_made a.values.now) a.out.now r.0 r.1 c.loop-i.at c.loop-i.out
          (rw n at (c.loop-i.invariant r.0 r.1))
          ∙ ap (λ (x : Answer (List ℕ)). room_after x a.out.now) told;
    })
