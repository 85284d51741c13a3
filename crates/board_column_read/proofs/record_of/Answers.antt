-- `board_column_read::record_of` meets its contract: each byte by itself. Assumes nothing.
use Rattle.board_column_read.specs.Made.{record_made}
use Rattle.board_column_read.proofs.record_of.Goals as goal

pub returns : goal.returns
unfolding record_made
returns c =
    rw (
      c.from.ensures,
      c.flags.ensures,
      c.low.ensures,
      c.low-2.ensures,
      c.low-3.ensures,
      c.low-4.ensures,
      c.low-5.ensures,
      c.low-6.ensures,
      c.low-7.ensures,
      c.low-8.ensures,
      c.sort.ensures,
      c.low-9.ensures,
      c.low-10.ensures,
      c.index_of-x.ensures,
      c.info-i.ensures,
    )
