-- `board_column::column_size` meets its contract: the size of the column that the record and the names make. Assumes nothing.
use Rattle.board_answer.proofs.Laws.{size_told}
use Rattle.board_column.proofs.Laws.{given_is}
use Rattle.board_column.proofs.column_size.Goals as goal

pub returns : goal.returns
returns c =
    let a = c.args in
    size_told _ _ _ _ c.answer.ensures c.column_size.ensures
    (given_is a.column.now a.names.now a.buffer.now _ c.column_of-c.ensures)
