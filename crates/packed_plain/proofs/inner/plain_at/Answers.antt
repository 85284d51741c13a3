-- `packed_plain::inner::plain_at` meets its contract: the record's numbers, and what they name. Assumes nothing.
use Prim.Native.Nat.{◌*◌}
use native.Mathlib.Omega.{arith}
use Rattle.packed_plain.proofs.Numbers.{table_tells}
use mathlib.Core.Path.{refl}
use Rattle.packed_plain.proofs.inner.plain_at.Goals as goal

pub returns : goal.returns
returns c =
    let a = c.args in
    table_tells a.table.now (16 * a.i) (λ i. omega (arith, c.type_inv.table i)) c.if-table-at-lt16.false c.named.result c.low_at-ty.result
    c.low_at-n.result c.low_at-last.result _ c.low_at-ty.ensures.value c.low_at-n.ensures.value c.low_at-last.ensures.value refl c.named.ensures
