-- `prelogin::put_entry` meets its contract: three runs of stores are one. Assumes nothing.
use Rattle.prelogin.proofs.Stored.{entry_stored}
use Rattle.prelogin.proofs.put_entry.Goals as goal

pub returns : goal.returns
returns c =
    let a = c.args in rw (c.put_high-2.ensures, c.put_high.ensures, c.put_byte.ensures)
    (entry_stored a.out.now a.at a.token a.offset a.count)
