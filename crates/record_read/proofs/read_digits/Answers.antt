-- `record_read::read_digits` meets its contract: length, precision and scale, a byte each. Assumes nothing.
use Rattle.record_read.proofs.Laws.{digits_is}
use Rattle.record_read.proofs.read_digits.Goals as goal

pub returns : goal.returns
returns c =
    let is = c.requires.1 in
    rw c.from.ensures (digits_is c.args.rest.now is.0 c.if-rest-lt4.false is.1 is.2)
