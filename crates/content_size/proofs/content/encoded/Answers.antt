-- `content_size::content::encoded` meets its contract: binary as it is, a string as its size pass says. Assumes nothing.
use Rattle.format.specs.Answer.{wrote}
use Rattle.content_size.proofs.content.encoded.Goals as goal

pub returns-in-Binary : goal.returns-in-Binary
unfolding wrote
returns-in-Binary c = rw c.in-Binary.is

pub returns-in-String : goal.returns-in-String
returns-in-String c = rw c.in-String.is c.utf16_size.ensures
