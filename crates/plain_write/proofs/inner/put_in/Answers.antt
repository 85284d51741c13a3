-- `plain_write::inner::put_in` meets its contract: by what was told. Assumes nothing.
use mathlib.Core.Path.{◌≡◌}
use native.Mathlib.Omega.{arith}
use Rattle.value_kind.specs.Told.{kind_told}
use Rattle.packed_plain.specs.declared.Plain.TheVariants as P
use Rattle.plain_write.proofs.Plainly.{length-kind}
use Rattle.plain_write.proofs.inner.put_in.Goals as goal

pub put_kind-requires : goal.put_kind-requires
put_kind-requires c =
    let a = c.args in
    let told : c.in-Some-Bare.field-0 ≡ P.Bare c.in-Some-Bare.k = rw c.in-Some-Bare.is at c.in-Some-Bare.field-0-is in
    let h = rw (c.in-Some-Bare.is, told) at c.requires in
    omega (arith, h, length-kind (kind_told c.in-Some-Bare.k) a.v.first a.v.second)

pub put_counted-requires : goal.put_counted-requires
put_counted-requires c =
    let told : c.in-Some-Counted.field-0 ≡ P.Counted c.in-Some-Counted.k = rw c.in-Some-Counted.is at c.in-Some-Counted.field-0-is in
    rw (c.in-Some-Counted.is, told) at c.requires

pub returns-in-Some-Bare : goal.returns-in-Some-Bare
returns-in-Some-Bare c =
    let told : c.in-Some-Bare.field-0 ≡ P.Bare c.in-Some-Bare.k = rw c.in-Some-Bare.is at c.in-Some-Bare.field-0-is in
    rw (c.in-Some-Bare.is, told) c.put_kind.ensures

pub returns-in-Some-Counted : goal.returns-in-Some-Counted
returns-in-Some-Counted c =
    let told : c.in-Some-Counted.field-0 ≡ P.Counted c.in-Some-Counted.k = rw c.in-Some-Counted.is at c.in-Some-Counted.field-0-is in
    rw (c.in-Some-Counted.is, told) c.put_counted.ensures
