-- `plain_write::inner::counted_size` meets its contract: by the kind. Assumes nothing.
use native.Mathlib.Omega.{arith}
use mathlib.Core.Path.{◌∙◌}
use Rattle.value_kind.specs.Told.{kind_told}
use Rattle.value_kind.proofs.ScalarLaws.{width_most}
use Rattle.plain_write.proofs.Plainly.{null_size, counted_size}
use Rattle.plain_write.proofs.inner.counted_size.Goals as goal

pub returns-then-kind-eq0 : goal.returns-then-kind-eq0
returns-then-kind-eq0 c = let a = c.args in (omega arith, null_size a.k a.kind c.if-kind-eq0.true)

pub overflow_add-result : goal.overflow_add-result
overflow_add-result c = record { fits = omega (arith, c.bytes.ensures, width_most (kind_told c.args.k)) }

pub returns : goal.returns
returns c =
    let a = c.args in (
      omega (arith, c.bytes.ensures, width_most (kind_told a.k)),
      counted_size a.k a.kind c.bytes.result c.if-kind-eq0.false (c.if-kind-place.false ∙ c.place.ensures) c.bytes.ensures,
    )
