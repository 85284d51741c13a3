-- `text::to_utf8` meets its contract: UTF-16LE in the form UTF-8. Assumes nothing.
use Rattle.text_put.proofs.Turned.{turned_out}
use Rattle.text.proofs.to_utf8.Goals as goal

pub returns : goal.returns
returns c = rw (turned_out c.args.u.now) at c.turn.ensures
