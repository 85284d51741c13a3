-- `packed_normal::normal_packed` meets its contract: at each turn what the room and the run show, with the normal form of what is left, is the normal form
-- (`Copying` of normal_step, over the columns that the table's records stand for). Assumes nothing.
use mathlib.Core.Path.{◌≡◌, sym, ap, ◌∙◌}
use mathlib.Core.List.{List, []}
use Prim.Native.Nat.{ℕ, ◌<◌, ◌*◌}
use native.Mathlib.Omega.{arith}
use lib.ListN.{length, get_or, drop}
use Rattle.wire.proofs.Exit.{exit_is}
use Rattle.format.specs.Answer.{Read, took, map_read, read_at, room_after_read}
use Rattle.format.specs.Descriptor as D
use Rattle.format.specs.Row.{read_row}
use Rattle.columns.specs.None.{no_column}
use Rattle.columns.specs.Told.{columns_told}
use Rattle.value_weigh.specs.Told.{Needs}
use Rattle.judge_step.specs.Told.{needs_of, needs_told}
use Rattle.normal_step.proofs.Answering.{asked, normal_fits, normal_long, normal_refused}
use Rattle.normal_step.proofs.Copying.{answer, Copying, copying_begins, copying_asks, copying_next, copying_closes, copying_ends, copying_refused}
use Rattle.packed.specs.Packed.{table_columns}
use Rattle.packed.specs.Made.{column_made, no_name, table_made}
use Rattle.packed.proofs.Table.{columns-counted, column_there, column_made_lem}
use Rattle.packed.proofs.Told.{table_told}
use Rattle.packed_normal.proofs.normal_packed.Goals.{Start, Else-out-row, In-loop-i, After-loop-i}
use Rattle.packed_normal.proofs.normal_packed.Goals as goal

-- what the columns that were made need is what the table's do
abbrev needed : List D.Column → List ℕ → ℕ → Read Needs
needed cs s at = map_read (needs_of cs) (read_at (read_row cs) s at)

made_needs : (table s : List ℕ) (at : ℕ) (r : Read Needs) → r ≡ needed (table_columns table) s at → r ≡ needed (columns_told [] (table_made table)) s at
made_needs table s at r e = e ∙ ap (λ (cs : List D.Column). needed cs s at) (sym (table_told [] table))

-- and so with the normal form
made_form : (c : Start) →
    let a = c.args in
    answer (table_made a.table.now) a.s.now a.cursor.at a.out.now ≡ asked (table_columns a.table.now) a.s.now a.cursor.at (length a.out.now)
made_form c =
    let a = c.args in
    ap (λ (cs : List D.Column). asked cs a.s.now a.cursor.at (length a.out.now)) (table_told [] a.table.now)

pub returns-in_err-row : goal.returns-in_err-row
returns-in_err-row c =
    let a = c.args in
    let told = made_form (goal.at.returns-in_err-row c).Start in
    let t = copying_refused (table_made a.table.now) a.s.now a.cursor.at a.out.now _
    (normal_refused (columns_told [] (table_made a.table.now)) a.s.now a.cursor.at (length a.out.now) _
    (made_needs a.table.now a.s.now a.cursor.at _ c.in_err-row.ensures)) in
    rw (exit_is _ _ c.from_residual.ensures.1) (record {
      answer = t.0 ∙ ap (map_read length) told;
      room = t.1 ∙ ap (λ (r : Read (List ℕ)). room_after_read (λ (l : List ℕ). l) r a.out.now) told;
    })

pub returns-then-out-row : goal.returns-then-out-row
returns-then-out-row c =
    let a = c.args in
    let told = made_form (goal.at.returns-then-out-row c).Start in
    let t = copying_refused (table_made a.table.now) a.s.now a.cursor.at a.out.now _
    (normal_long (columns_told [] (table_made a.table.now)) a.s.now a.cursor.at (length a.out.now) (needs_told c.in_ok-row.row) c.in_ok-row.row.next.at
    (made_needs a.table.now a.s.now a.cursor.at _ c.in_ok-row.ensures) c.if-out-row.true) in
    record {
      answer = t.0 ∙ ap (map_read length) told;
      room = t.1 ∙ ap (λ (r : Read (List ℕ)). room_after_read (λ (l : List ℕ). l) r a.out.now) told;
    }

-- the normal form
form : (c : Else-out-row) →
    let a = c.args in
    let x = answer (table_made a.table.now) a.s.now a.cursor.at a.out.now in
    (j : List ℕ) × (x ≡ took j c.in_ok-row.row.next.at) × (took c.in_ok-row.row.normal c.in_ok-row.row.next.at ≡ map_read length x)
form c =
    let a = c.args in
    normal_fits (columns_told [] (table_made a.table.now)) a.s.now a.cursor.at (length a.out.now) (needs_told c.in_ok-row.row) c.in_ok-row.row.next.at
    (made_needs a.table.now a.s.now a.cursor.at _ c.in_ok-row.ensures) c.if-out-row.false

pub loop-i-init : goal.loop-i-init
loop-i-init c =
    let a = c.args in
    λ j n h. copying_begins (table_made a.table.now) a.s.now a.cursor.at a.out.now (took j n) _ h c.open_run-run.ensures

-- a turn has a column
has-column : (c : In-loop-i) → c.loop-i.i < length (table_made c.args.table.now)
has-column c = rw (columns-counted c.args.table.now, ← c.records-i-end.ensures) c.loop-i-test.true

made : (c : In-loop-i) → column_made (drop (16 * c.loop-i.i) c.args.table.now) no_name no_name no_name
    ≡ get_or (table_made c.args.table.now) c.loop-i.i no_column
made c = column_made_lem c.args.table.now c.loop-i.i (has-column c)

pub normal_at-run-requires : goal.normal_at-run-requires
normal_at-run-requires c =
    let a = c.args in
    let t = (goal.at.normal_at-run-requires c).In-loop-i in
    let f = form (goal.at.normal_at-run-requires c).Else-out-row in (
      column_there a.table.now c.loop-i.i (has-column t),
      copying_asks (table_made a.table.now) a.s.now a.cursor.at a.out.now f.0 c.in_ok-row.row.next.at c.loop-i.i c.loop-i.run c.loop-i.out
          (column_made (drop (16 * c.loop-i.i) a.table.now) no_name no_name no_name) (has-column t) (c.loop-i.invariant f.0 _ f.1) (made t),
    )

pub loop-i-preserved : goal.loop-i-preserved
loop-i-preserved c =
    let a = c.args in
    let t = (goal.at.loop-i-preserved c).In-loop-i in
    let same : length c.normal_at-run.new.out ≡ length a.out.now = c.normal_at-run.auto.out ∙ c.loop-i.auto.out in
    λ j n h.
    copying_next (table_made a.table.now) a.s.now a.cursor.at a.out.now j n c.loop-i.i c.loop-i.run c.normal_at-run.result c.loop-i.out
    c.normal_at-run.new.out (column_made (drop (16 * c.loop-i.i) a.table.now) no_name no_name no_name) (has-column t) (c.loop-i.invariant j n h) (made t)
    same c.normal_at-run.ensures

-- behind the last turn
last : (c : After-loop-i) (j : List ℕ) (n : ℕ) →
    let a = c.args in
    answer (table_made a.table.now) a.s.now a.cursor.at a.out.now ≡ took j n
    → Copying (table_made a.table.now) a.s.now a.cursor.at a.out.now j n (length (table_made a.table.now)) c.loop-i.run c.loop-i.out
last c j n h =
    let z : c.loop-i.i ≡ c.records-i-end.result = omega arith in
    let e : c.loop-i.i ≡ length (table_made c.args.table.now) = z ∙ (c.records-i-end.ensures ∙ sym (columns-counted c.args.table.now)) in
    rw e at (c.loop-i.invariant j n h)

pub close_run-requires : goal.close_run-requires
close_run-requires c =
    let a = c.args in
    let f = form (goal.at.close_run-requires c).Else-out-row in
    copying_closes (table_made a.table.now) a.s.now a.cursor.at a.out.now (took f.0 c.in_ok-row.row.next.at) c.loop-i.run c.loop-i.out
    (last (goal.at.close_run-requires c).After-loop-i f.0 _ f.1)

pub returns : goal.returns
returns c =
    let a = c.args in
    let f = form (goal.at.returns c).Else-out-row in
    let told = made_form (goal.at.returns c).Start in
    record {
      answer = f.2 ∙ ap (map_read length) told;
      room = copying_ends (table_made a.table.now) a.s.now a.cursor.at a.out.now (took f.0 c.in_ok-row.row.next.at) c.loop-i.run c.loop-i.out
          c.close_run.new.out (last (goal.at.returns c).After-loop-i f.0 _ f.1) c.close_run.ensures.1
          ∙ ap (λ (r : Read (List ℕ)). room_after_read (λ (l : List ℕ). l) r a.out.now) (sym f.1 ∙ told);
    }
