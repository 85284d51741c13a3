-- `packed_plain::inner::is_int4` meets its contract: the record's numbers are those of an Intn of four bytes. Assumes nothing.
use borrow.Author.Tests.{eqb-true}
use Rattle.format.proofs.Answer.{no_truth}
use Rattle.format.specs.Scalar.{Kind}
use Rattle.value_kind.specs.declared.kinds.Kind.TheVariants as K
use Rattle.packed_plain.specs.declared.Plain.TheVariants as P
use Rattle.packed_plain.proofs.Numbers.{not_bit}
use Prim.Native.Nat.{◌+◌, ◌*◌}
use native.Mathlib.Omega.{arith}
use lib.ListN.{drop}
use Rattle.packed.specs.Packed.{column_of, no_names}
use Rattle.packed_plain.specs.Says.{Named, Says}
use Rattle.packed_plain.specs.declared.Plain.{Plain}
use Rattle.packed_plain.proofs.Numbers.{table_says}
use mathlib.Core.Path.{refl}
use Rattle.packed_plain.proofs.inner.is_int4.Goals.{After-low_at-last}
use Rattle.packed_plain.proofs.inner.is_int4.Goals as goal

pub returns-then-table-at-lt16 : goal.returns-then-table-at-lt16
returns-then-table-at-lt16 c e = no_truth e

-- what the three numbers name
named : (c : After-low_at-last) (p : Plain) →
    let a = c.args in
    Named p (c.low_at-ty.result + 4294967296 * c.low_at-last.result) c.low_at-n.result
    → Says p (column_of (drop (16 * a.i) a.table.now) no_names)
named c p d =
    let a = c.args in
    table_says a.table.now (16 * a.i) (λ i. omega (arith, c.type_inv.table i)) c.if-table-at-lt16.false p c.low_at-ty.result
    c.low_at-n.result c.low_at-last.result _ c.low_at-ty.ensures.value c.low_at-n.ensures.value c.low_at-last.ensures.value refl d

pub returns-then-n-eq4 : goal.returns-then-n-eq4
returns-then-n-eq4 c e =
    let key = eqb-true (c.low_at-ty.result + 4294967296 * c.low_at-last.result) 0x26 e in
    named (goal.at.returns-then-n-eq4 c).After-low_at-last (P.Counted K.I32) (key, c.if-n-eq4.true, not_bit Kind.i32 (omega arith))

pub returns : goal.returns
returns c e = no_truth e
