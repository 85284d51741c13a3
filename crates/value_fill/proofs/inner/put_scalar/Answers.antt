-- `value_fill::inner::put_scalar` meets its contract: a GUID in wire order, or the low bytes of the number. Assumes nothing.
use Rattle.format.specs.Scalar.{scalar_bytes}
use Rattle.wire.specs.Told.{guid_wire}
use Rattle.value_kind.proofs.ScalarLaws.{low_bytes_lem}
use Rattle.value_fill.proofs.inner.put_scalar.Goals as goal

pub returns-in-Guid : goal.returns-in-Guid
unfolding scalar_bytes guid_wire
returns-in-Guid c = rw c.in-Guid.is c.put_guid.ensures

pub returns : goal.returns
returns c =
    let low = low_bytes_lem c.args.s (λ g e. c.in_default.not-Guid g e) in
    rw (low, ← c.kind.ensures, ← c.bytes.ensures, ← c.number.ensures) c.put_low.ensures
