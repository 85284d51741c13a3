-- `plain_slot::inner::slot_in` meets its contract: by what was told. Assumes nothing.
use mathlib.Core.Path.{◌≡◌}
use Rattle.value_kind.specs.Told.{kind_told}
use Rattle.packed_plain.specs.declared.Plain.TheVariants as P
use Rattle.plain_slot.proofs.Bytes.{bytes_inside}
use Rattle.plain_slot.proofs.inner.slot_in.Goals as goal

pub slot_at-requires : goal.slot_at-requires
slot_at-requires c =
    let told : c.in-Some-Bare.field-0 ≡ P.Bare c.in-Some-Bare.k = rw c.in-Some-Bare.is at c.in-Some-Bare.field-0-is in
    let has = rw (c.in-Some-Bare.is, told) at c.requires in
    (bytes_inside c.args.s.now c.args.at (kind_told c.in-Some-Bare.k) has.0, has.1)

pub counted_slot-requires : goal.counted_slot-requires
counted_slot-requires c =
    let told : c.in-Some-Counted.field-0 ≡ P.Counted c.in-Some-Counted.k = rw c.in-Some-Counted.is at c.in-Some-Counted.field-0-is in
    rw (c.in-Some-Counted.is, told) at c.requires

pub returns-in-Some-Bare : goal.returns-in-Some-Bare
returns-in-Some-Bare c =
    let told : c.in-Some-Bare.field-0 ≡ P.Bare c.in-Some-Bare.k = rw c.in-Some-Bare.is at c.in-Some-Bare.field-0-is in
    rw (c.in-Some-Bare.is, told) c.slot_at.ensures

pub returns-in-Some-Counted : goal.returns-in-Some-Counted
returns-in-Some-Counted c =
    let told : c.in-Some-Counted.field-0 ≡ P.Counted c.in-Some-Counted.k = rw c.in-Some-Counted.is at c.in-Some-Counted.field-0-is in
    rw (c.in-Some-Counted.is, told) c.counted_slot.ensures
