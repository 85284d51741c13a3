-- `record_read::read_short` meets its contract: the two bytes behind the type byte are the length. Assumes nothing.
use Rattle.record_read.proofs.Laws.{short_is}
use Rattle.record_read.proofs.read_short.Goals as goal

pub returns : goal.returns
returns c =
    let is = c.requires.1 in
    rw (c.bare.ensures, c.low_at.ensures.value) (short_is c.args.rest.now is.0 c.if-rest-lt3.false is.1 is.2)
