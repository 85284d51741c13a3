-- `text::to_utf16` meets its contract: UTF-8 in the form UTF-16LE. Assumes nothing.
use Rattle.text_put.proofs.Turned.{turned_in}
use Rattle.text.proofs.to_utf16.Goals as goal

pub returns : goal.returns
returns c = rw (turned_in c.args.s.now) at c.turn.ensures
