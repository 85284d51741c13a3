-- `text::utf8_size` meets its contract: UTF-16LE in the form UTF-8. Assumes nothing.
use Rattle.text_put.proofs.Turned.{turned_out}
use Rattle.text.proofs.utf8_size.Goals as goal

pub returns : goal.returns
returns c = rw (turned_out c.args.u.now) at c.size_of.ensures
