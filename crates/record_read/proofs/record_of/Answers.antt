-- `record_read::record_of` meets its contract: each byte by itself. Assumes nothing.
use Rattle.record_read.specs.Told.{record_made}
use Rattle.record_read.proofs.record_of.Goals as goal

pub returns : goal.returns
unfolding record_made
returns c =
    rw (
      c.low.ensures,
      c.low-2.ensures,
      c.low-3.ensures,
      c.low-4.ensures,
      c.low-5.ensures,
      c.low-6.ensures,
      c.low-7.ensures,
      c.low-8.ensures,
    )
