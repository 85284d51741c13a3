-- `packed_read::read_packed` meets its contract: judged and found to fit the room and the list, then joined and put down. Assumes nothing.
use mathlib.Core.Path.{◌≡◌, sym, ap, ◌∙◌}
use mathlib.Core.List.{[]}
use Prim.Native.Nat.{◌*◌, ◌<◌, ◌≤◌}
use native.Mathlib.Omega.{arith}
use lib.ListN.{length, length-map}
use Rattle.wire.proofs.Exit.{exit_is}
use Rattle.column_type.specs.Told.{column_told}
use Rattle.judge_step.specs.Told.{needs_told}
use Rattle.packed.specs.Packed.{table_columns}
use Rattle.packed.specs.Made.{table_made}
use Rattle.packed.proofs.Table.{columns-counted}
use Rattle.packed.proofs.Told.{table_told}
use Rattle.packed_read.proofs.Reading.{Fits, fits, told, no_place, no_room, refused, row_read, readable, room-kept, values-kept}
use Rattle.packed_read.proofs.read_packed.Goals.{After-records, Else-values-records}
use Rattle.packed_read.proofs.read_packed.Goals as goal

pub returns-in_err-row : goal.returns-in_err-row
returns-in_err-row c =
    let a = c.args in
    let cs = table_columns a.table.now in
    let size = length a.out.now in
    let numbers = length a.values.now in
    let t = refused cs a.s.now a.cursor.at size numbers _ c.in_err-row.ensures in
    rw (exit_is _ _ c.from_residual.ensures.1) (record {
      told = t;
      room = room-kept cs a.s.now a.cursor.at size numbers _ a.out.now t;
      numbers = values-kept cs a.s.now a.cursor.at size numbers _ a.values.now t;
    })

pub returns-then-out-row : goal.returns-then-out-row
returns-then-out-row c =
    let a = c.args in
    let cs = table_columns a.table.now in
    let size = length a.out.now in
    let numbers = length a.values.now in
    let t = no_room cs a.s.now a.cursor.at size numbers (needs_told c.in_ok-row.row) _ c.in_ok-row.ensures c.if-out-row.true in
    record {
      told = t;
      room = room-kept cs a.s.now a.cursor.at size numbers _ a.out.now t;
      numbers = values-kept cs a.s.now a.cursor.at size numbers _ a.values.now t;
    }

-- a record for each column
counted : (c : After-records) → c.records.result ≡ length (table_columns c.args.table.now)
counted c =
    let t = c.args.table.now in
    c.records.ensures ∙ (sym (columns-counted t) ∙ (sym (length-map (table_made t) (column_told [])) ∙ ap length (table_told [] t)))

pub returns-then-values-records : goal.returns-then-values-records
returns-then-values-records c =
    let a = c.args in
    let cs = table_columns a.table.now in
    let size = length a.out.now in
    let numbers = length a.values.now in
    let n = counted (goal.at.returns-then-values-records c).After-records in
    let short : numbers < 3 * length cs = omega (arith, n, c.if-values-records.true) in
    let t = no_place cs a.s.now a.cursor.at size numbers (needs_told c.in_ok-row.row) _ c.in_ok-row.ensures c.if-out-row.false short in
    record {
      told = t;
      room = room-kept cs a.s.now a.cursor.at size numbers _ a.out.now t;
      numbers = values-kept cs a.s.now a.cursor.at size numbers _ a.values.now t;
    }

-- the list has place for the values' numbers
place : (c : Else-values-records) → 3 * length (table_columns c.args.table.now) ≤ length c.args.values.now
place c =
    let n = counted (goal.at.Else-values-records c).After-records in
    omega (arith, n, c.if-values-records.false)

-- the row, where it fits both
fitting : (c : Else-values-records) →
    let a = c.args in
    Fits (table_columns a.table.now) a.s.now a.cursor.at (length a.out.now) (length a.values.now)
fitting c =
    let a = c.args in
    fits (table_columns a.table.now) a.s.now a.cursor.at (length a.out.now) (length a.values.now) (needs_told c.in_ok-row.row) c.in_ok-row.row.next.at
    c.in_ok-row.ensures c.if-out-row.false (place c)

pub take_values-requires : goal.take_values-requires
take_values-requires c =
    let a = c.args in
    let f = fitting (goal.at.take_values-requires c).Else-values-records in
    (readable (table_columns a.table.now) a.s.now a.cursor.at (length a.out.now) (length a.values.now) f, f.place)

pub returns : goal.returns
returns c =
    let a = c.args in
    let cs = table_columns a.table.now in
    let size = length a.out.now in
    let numbers = length a.values.now in
    let e = (goal.at.returns c).Else-values-records in
    let f = fitting e in
    let row = row_read cs a.s.now a.cursor.at size numbers f in
    record {
      told = told cs a.s.now a.cursor.at size numbers (needs_told c.in_ok-row.row) _ c.in_ok-row.ensures c.if-out-row.false (place e);
      room = rw (f.same, ← row) c.take_values.ensures.room;
      numbers = rw f.same c.take_values.ensures.numbers;
    }
