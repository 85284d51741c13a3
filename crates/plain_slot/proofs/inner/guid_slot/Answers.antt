-- `plain_slot::inner::guid_slot` meets its contract. Assumes nothing.
use mathlib.Core.Path.{ap, ◌∙◌}
use native.Mathlib.Omega.{arith}
use Rattle.format.specs.Scalar as S
use Rattle.format.specs.Scalar.{scalar_of}
use Rattle.format.proofs.Number.{Bytes}
use Rattle.wire.specs.Told.{guid_bytes}
use Rattle.wire.specs.declared.Guid.{Guid}
use Rattle.scalar_read.proofs.Reading.{guid_there}
use Rattle.packed_slot.specs.Slots.{scalar_slot}
use Rattle.packed_slot.proofs.Halves.{halves}
use Rattle.plain_slot.proofs.inner.guid_slot.Goals as goal

pub returns : goal.returns
unfolding scalar_of
returns c =
    let a = c.args in
    let bytes : Bytes a.s.now = λ i. omega (arith, c.type_inv.s i) in
    let fits = c.guid_at-g.type_inv in
    halves c.guid_at-g.result (omega arith, omega arith)
    ∙ ap scalar_slot
    (ap (λ (g : Guid). S.Scalar.guid (guid_bytes g)) c.guid_at-g.ensures ∙ guid_there a.s.now a.at c.requires bytes)
