-- `record_read::read_byte` meets its contract: the byte behind the type byte is the length. Assumes nothing.
use Rattle.record_read.proofs.Laws.{byte_is}
use Rattle.record_read.proofs.read_byte.Goals as goal

pub returns : goal.returns
returns c =
    let is = c.requires.1 in
    rw (c.bare.ensures, c.from.ensures) (byte_is c.args.rest.now is.0 c.if-rest-lt2.false is.1 is.2)
