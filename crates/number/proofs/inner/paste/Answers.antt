-- `number::inner::paste` meets its contract: what was lent from o on comes back with the part in front. Assumes nothing.
use Prim.Native.Nat.{◌-◌}
use lib.ListN.{take, drop}
use Rattle.lists.proofs.Lent.{lent_put}
use Rattle.number.proofs.inner.paste.Goals as goal

pub returns : goal.returns
returns c =
    let a = c.args in
    lent_put a.out.now _ a.o (take (a.e - a.b) (drop a.b a.s.now)) c.copy.ensures
