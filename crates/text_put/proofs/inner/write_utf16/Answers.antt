-- `text_put::inner::write_utf16` meets its contract: UTF-8 in the form UTF-16LE. Assumes nothing.
use Rattle.text_put.proofs.Turned.{turned_in}
use Rattle.text_put.proofs.inner.write_utf16.Goals as goal

pub write-requires : goal.write-requires
write-requires c = rw (turned_in c.args.s.now) c.requires

pub returns : goal.returns
returns c = rw (turned_in c.args.s.now) at c.write.ensures
