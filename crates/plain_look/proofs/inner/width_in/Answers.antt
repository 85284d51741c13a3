-- `plain_look::inner::width_in` meets its contract: by what was told. Assumes nothing.
use mathlib.Core.Path.{◌≡◌}
use Rattle.packed_plain.specs.declared.Plain.TheVariants as P
use Rattle.plain_look.proofs.inner.width_in.Goals as goal

pub returns-in-Some-Bare : goal.returns-in-Some-Bare
returns-in-Some-Bare c =
    let told : c.in-Some-Bare.field-0 ≡ P.Bare c.in-Some-Bare.k = rw c.in-Some-Bare.is at c.in-Some-Bare.field-0-is in
    rw (c.in-Some-Bare.is, told) c.bare.ensures

pub returns-in-Some-Counted : goal.returns-in-Some-Counted
returns-in-Some-Counted c =
    let told : c.in-Some-Counted.field-0 ≡ P.Counted c.in-Some-Counted.k = rw c.in-Some-Counted.is at c.in-Some-Counted.field-0-is in
    rw (c.in-Some-Counted.is, told) c.counted.ensures
