-- `board_value::value_read` meets its contract: the value that the layer below read under the column of the record, as three numbers. Assumes nothing.
use mathlib.Core.Path.{refl, ap, subst}
use mathlib.Core.List.{[]}
use Rattle.value_found.specs.Told.{value_read_told, CanonicalRead}
use Rattle.board_answer.proofs.Laws.{reads_took, reads_stops}
use Rattle.board_value.proofs.Laws.{value_is, room_is}
use Rattle.board_value.proofs.value_read.Goals as goal

pub slot_of-s-requires : goal.slot_of-s-requires
slot_of-s-requires c = subst CanonicalRead c.in-Ok.is c.read_value-read.ensures.canonical

pub returns-in-Ok : goal.returns-in-Ok
returns-in-Ok c =
    let a = c.args in
    let made = c.column_at-c.ensures in
    let e = value_is a.column.now a.row.now a.at a.room.now _ made _ _ (ap value_read_told c.in-Ok.is) (c.read_value-read.ensures.told []) in
    let r = reads_took _ _ _ a.value.now _ _ c.at.ensures c.slot_of-s.ensures e in
    record {
      answer = r.0;
      room = room_is a.column.now a.row.now a.at a.room.now _ made _ (c.read_value-read.ensures.room []);
      value = r.1;
    }

pub returns-in-Err : goal.returns-in-Err
returns-in-Err c =
    let a = c.args in
    let made = c.column_at-c.ensures in
    let e = value_is a.column.now a.row.now a.at a.room.now _ made _ _ (ap value_read_told c.in-Err.is) (c.read_value-read.ensures.told []) in
    let r = reads_stops _ _ _ a.value.now _ c.refused.ensures refl e in
    record {
      answer = r.0;
      room = room_is a.column.now a.row.now a.at a.room.now _ made _ (c.read_value-read.ensures.room []);
      value = r.1;
    }
