-- `plain_write::inner::bare_size` meets its contract: by the kind. Assumes nothing.
use native.Mathlib.Omega.{arith}
use mathlib.Core.Path.{◌∙◌}
use Rattle.value_kind.specs.Told.{kind_told}
use Rattle.value_kind.proofs.ScalarLaws.{width_most}
use Rattle.plain_write.proofs.Plainly.{bare_size}
use Rattle.plain_write.proofs.inner.bare_size.Goals as goal

pub returns-then-kind-place : goal.returns-then-kind-place
returns-then-kind-place c =
    let a = c.args in (
      omega (arith, c.bytes.ensures, width_most (kind_told a.k)),
      bare_size a.k a.kind c.bytes.result (c.if-kind-place.true ∙ c.place.ensures) c.bytes.ensures,
    )
