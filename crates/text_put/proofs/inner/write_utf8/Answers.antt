-- `text_put::inner::write_utf8` meets its contract: UTF-16LE in the form UTF-8. Assumes nothing.
use Rattle.text_put.proofs.Turned.{turned_out}
use Rattle.text_put.proofs.inner.write_utf8.Goals as goal

pub write-requires : goal.write-requires
write-requires c = rw (turned_out c.args.u.now) c.requires

pub returns : goal.returns
returns c = rw (turned_out c.args.u.now) at c.write.ensures
