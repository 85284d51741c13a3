-- `packed_slots::inner::take_values` meets its contract: at each turn the list holds the first values' numbers and the room the first bytes of their content
-- (`Slotted`). Assumes nothing.
use mathlib.Core.Path.{◌≡◌, refl, sym, ap, subst, ◌∙◌}
use mathlib.Core.List.{List, [], ◌++◌}
use Prim.Native.Nat.{ℕ, ◌*◌, ◌≤◌, ◌<◌, ◌-◌, zero-le}
use native.Mathlib.Nat.{le_antisymm}
use native.Mathlib.Omega.{arith}
use lib.ListN.{length, get_or, drop, length-map}
use Rattle.format.specs.Answer.{read_at, room_after_read}
use Rattle.format.specs.Descriptor as D
use Rattle.format.specs.Row.{read_values, copied_out_row}
use Rattle.format.specs.Found.{found_row}
use Rattle.column_type.specs.declared.Column.{Column}
use Rattle.column_type.specs.Told.{column_told}
use Rattle.columns.specs.None.{no_column}
use Rattle.columns.specs.Told.{columns_told}
use Rattle.packed.specs.Packed.{column_of, no_names, table_columns}
use Rattle.packed.specs.Made.{table_made}
use Rattle.packed.proofs.Table.{columns-counted, column_there, column_made_lem}
use Rattle.packed.proofs.Told.{plain_told, table_told}
use Rattle.read_step.specs.Told.{place_told}
use Rattle.packed_slot.specs.Slots.{slots_of}
use Rattle.packed_slots.specs.Steps.{Readable}
use Rattle.packed_slots.proofs.Slotting.{Slotted, slotting_begins, place_for, room_for, inside, slotting_next, slotting_ends, joining_ends}
use Rattle.packed_slots.proofs.inner.take_values.Goals.{After-records-n, In-loop-i}
use Rattle.packed_slots.proofs.inner.take_values.Goals as goal

-- as many columns as are told
told-count : (t : List ℕ) → length (table_made t) ≡ length (table_columns t)
told-count t = sym (length-map (table_made t) (column_told [])) ∙ ap length (table_told [] t)

-- the row can be read
readable : (c : After-records-n) →
    let a = c.args in
    let ds = columns_told [] (table_made c.args.table.now) in
    Readable (length a.out.now) ds (read_at (read_values ds) a.s.now a.cursor.at)
readable c =
    let a = c.args in
    subst (λ (ds : List D.Column). Readable (length a.out.now) ds (read_at (read_values ds) a.s.now a.cursor.at))
    (sym (table_told [] a.table.now)) c.requires.0

pub loop-i-init : goal.loop-i-init
loop-i-init c =
    let a = c.args in
    let place : 3 * length (table_made c.args.table.now) ≤ length a.values.now = omega (arith, c.requires.1, told-count a.table.now) in
    (zero-le, refl, refl, slotting_begins (table_made c.args.table.now) a.s.now a.cursor.at a.values.now a.out.now (readable c) place)

counted_at_in_loop_i : (c : In-loop-i) → c.records-n.result ≡ length (table_made c.args.table.now)
counted_at_in_loop_i c = c.records-n.ensures ∙ sym (columns-counted c.args.table.now)

-- ---- at a turn
less : (c : In-loop-i) → c.loop-i.i < length (table_made c.args.table.now)
less c = subst (λ (n : ℕ). c.loop-i.i < n) (counted_at_in_loop_i c) c.loop-i-test.true

told : (c : In-loop-i) → (column_of (drop (16 * c.loop-i.i) c.args.table.now) no_names) ≡ column_told []
    (get_or (table_made c.args.table.now) c.loop-i.i no_column)
told c =
    let t = c.args.table.now in
    let i = c.loop-i.i in
    sym (plain_told [] (drop (16 * i) t)) ∙ ap (column_told []) (column_made_lem t i (less c))

pub take_at-place-requires : goal.take_at-place-requires
take_at-place-requires c =
    let a = c.args in
    let i = c.loop-i.i in
    let p = place_told c.loop-i.place in
    let vs = c.loop-i.values in
    let bs = c.loop-i.out in
    let z = c.loop-i.invariant.3 in (
      column_there a.table.now i (less (goal.at.take_at-place-requires c).In-loop-i),
      place_for (table_made c.args.table.now) a.s.now a.cursor.at a.values.now a.out.now i p vs bs
          (column_of (drop (16 * c.loop-i.i) c.args.table.now) no_names) (less (goal.at.take_at-place-requires c).In-loop-i) z
          (told (goal.at.take_at-place-requires c).In-loop-i),
      inside (table_made c.args.table.now) a.s.now a.cursor.at a.values.now a.out.now i p vs bs
          (column_of (drop (16 * c.loop-i.i) c.args.table.now) no_names) (less (goal.at.take_at-place-requires c).In-loop-i) z
          (told (goal.at.take_at-place-requires c).In-loop-i),
      room_for (table_made c.args.table.now) a.s.now a.cursor.at a.values.now a.out.now i p vs bs
          (column_of (drop (16 * c.loop-i.i) c.args.table.now) no_names) (less (goal.at.take_at-place-requires c).In-loop-i) z
          (told (goal.at.take_at-place-requires c).In-loop-i),
    )

pub loop-i-preserved : goal.loop-i-preserved
loop-i-preserved c =
    let a = c.args in (
      omega (arith, c.loop-i-test.true),
      c.take_at-place.auto.values ∙ c.loop-i.invariant.1,
      c.take_at-place.auto.out ∙ c.loop-i.invariant.2,
      slotting_next (table_made c.args.table.now) a.s.now a.cursor.at a.values.now a.out.now c.loop-i.i (place_told c.loop-i.place)
          c.loop-i.values c.loop-i.out (column_of (drop (16 * c.loop-i.i) c.args.table.now) no_names) (less (goal.at.loop-i-preserved c).In-loop-i)
          c.loop-i.invariant.3 (told (goal.at.loop-i-preserved c).In-loop-i) (place_told c.take_at-place.result)
          c.take_at-place.new.values c.take_at-place.new.out c.take_at-place.ensures,
    )

counted : (c : After-records-n) → c.records-n.result ≡ length (table_made c.args.table.now)
counted c = c.records-n.ensures ∙ sym (columns-counted c.args.table.now)

pub returns : goal.returns
returns c =
    let a = c.args in
    let t = a.table.now in
    let s = a.s.now in
    let at = a.cursor.at in
    let last = le_antisymm c.loop-i.invariant.0 c.loop-i-test.false ∙ counted (goal.at.returns c).After-records-n in
    let p = place_told c.loop-i.place in
    let vs = c.loop-i.values in
    let bs = c.loop-i.out in
    let z = subst (λ (i : ℕ). Slotted (table_made c.args.table.now) s at a.values.now a.out.now i p vs bs) last c.loop-i.invariant.3 in
    record {
      room = joining_ends (table_made c.args.table.now) s at a.values.now a.out.now p vs bs z (readable (goal.at.returns c).After-records-n)
          ∙ ap (λ (ds : List D.Column). room_after_read (copied_out_row ds) (read_at (read_values ds) s at) a.out.now) (table_told [] t);
      numbers = slotting_ends (table_made c.args.table.now) s at a.values.now a.out.now p vs bs z
          ∙ (ap (λ (n : ℕ). slots_of (found_row (columns_told [] (table_made c.args.table.now)) s at 0) ++ drop (3 * n) a.values.now) (told-count t)
          ∙ ap (λ (ds : List D.Column). slots_of (found_row ds s at 0) ++ drop (3 * length (table_columns t)) a.values.now) (table_told [] t));
    }
