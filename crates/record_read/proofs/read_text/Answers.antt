-- `record_read::read_text` meets its contract: length, collation and sort byte. Assumes nothing.
use Rattle.record_read.proofs.Laws.{text_is}
use Rattle.record_read.proofs.read_text.Goals as goal

pub returns : goal.returns
returns c =
    let is = c.requires.1 in
    rw (c.low_at-length.ensures.value, c.low_at-info.ensures.value) (text_is c.args.rest.now is.0 c.if-rest-lt8.false is.1 is.2)
