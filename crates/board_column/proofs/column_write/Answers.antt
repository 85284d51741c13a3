-- `board_column::column_write` meets its contract: the record's descriptor where it has a common form; else nothing was written yet, and it is of the column
-- that the record and the names make, which the layer below writes. Assumes nothing.
use mathlib.Core.Path.{ap, subst, ◌∙◌}
use mathlib.Core.List.{List}
use Prim.Native.Nat.{ℕ}
use native.Mathlib.Omega.{arith}
use Rattle.board_answer.specs.Told.{counted}
use Rattle.board_answer.proofs.Laws.{Writes, writes_told}
use Rattle.board_column.specs.Plain.{names_in, column_given}
use Rattle.board_column.proofs.Laws.{given_is}
use Rattle.board_column.proofs.column_write.Goals as goal

pub returns-in-Some : goal.returns-in-Some
returns-in-Some c =
    let a = c.args in
    let d = c.in-Some.ensures (names_in a.buffer.now a.names.now) in
    record {
      answer = c.at.ensures ∙ ap counted d.0;
      room = d.1;
    }

pub returns : goal.returns
returns c =
    let a = c.args in
    let left = c.write_record.new.out in
    let given = given_is a.column.now a.names.now a.buffer.now _ c.column_of-c.ensures in
    let new = c.write_column.new.out in
    let all = subst (λ (o : List ℕ). Writes c.answer.result new (column_given a.column.now a.names.now a.buffer.now) o) c.in_default.ensures
    (writes_told _ _ _ _ _ left c.answer.ensures given (c.write_column.ensures.answer, c.write_column.ensures.room)) in record {
      answer = all.0;
      room = all.1;
    }
