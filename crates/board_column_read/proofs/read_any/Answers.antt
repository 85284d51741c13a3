-- `board_column_read::read_any` meets its contract: the record of a column that was read and its names' places. Assumes nothing.
use mathlib.Core.Path.{refl, sym, ap, ◌∙◌, subst}
use Prim.Native.Nat.{◌+◌}
use Rattle.column_type.specs.Told.{column_read_told, NamesFrom}
use Rattle.board_column_read.proofs.Laws.{leaves_column, leaves_nothing}
use Rattle.board_column_read.proofs.read_any.Goals as goal

pub returns-in-Ok : goal.returns-in-Ok
returns-in-Ok c =
    let a = c.args in
    let s = a.bytes.now in
    let all = leaves_column _ s a.at a.index _ a.column.now _ a.names.now _ _ _ c.in-Ok.ensures.told
    c.in-Ok.ensures.names c.at.ensures c.record_of.ensures c.names_of.ensures in record {
      answer = all.0;
      column = all.1.0;
      names = all.1.1;
    }

pub returns-in-Err : goal.returns-in-Err
returns-in-Err c =
    let a = c.args in
    let s = a.bytes.now in
    let all = leaves_nothing _ s a.at a.index _ a.column.now _ a.names.now _ _
    c.in-Err.ensures.told c.refused.ensures refl refl in record {
      answer = all.0;
      column = all.1.0;
      names = all.1.1;
    }
