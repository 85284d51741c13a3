-- `guid::inner::put_guid` meets its contract: the four runs of stores are one run, the GUID's bytes in wire order. Assumes nothing.
use Rattle.guid.proofs.Laws.{guid-written}
use Rattle.guid.proofs.inner.put_guid.Goals as goal

pub returns : goal.returns
returns c =
    let a = c.args in
    let low1 = c.put_low.ensures in
    let low2 = c.put_low-2.ensures in
    let low3 = c.put_low-3.ensures in
    let high = c.put_high.ensures in
    rw (high, low3, low2, low1) (guid-written a.out.now a.at a.g)
