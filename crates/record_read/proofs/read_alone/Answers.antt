-- `record_read::read_alone` meets its contract: the type byte alone. Assumes nothing.
use Rattle.record_read.proofs.Laws.{alone_is}
use Rattle.record_read.proofs.read_alone.Goals as goal

pub returns : goal.returns
returns c =
    let is = c.requires.1 in
    rw c.bare.ensures (alone_is c.args.rest.now is.0 c.requires.0 is.1)
