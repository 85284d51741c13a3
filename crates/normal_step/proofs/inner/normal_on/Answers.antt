-- `normal_step::inner::normal_on` meets its contract: the value's turn under the column's family and declared length. Assumes nothing.
use mathlib.Core.List.{[]}
use native.Mathlib.Omega.{arith}
use lib.ListN.{length, drop}
use Rattle.column_type.specs.Told.{column_told}
use Rattle.value_kind.specs.Told.{family_told}
use Rattle.normal_step.proofs.Placing.{length_small, in_family}
use Rattle.normal_step.proofs.inner.normal_on.Goals as goal

pub overflow_cast-c : goal.overflow_cast-c
overflow_cast-c c =
    let a = c.args in
    omega (arith, length_small (column_told [] a.c) (drop a.run.at a.s.now) a.s.now (length a.out.now) a.run c.requires)

pub normal_in-requires : goal.normal_in-requires
normal_in-requires c =
    let a = c.args in
    let e =
    in_family (column_told [] a.c) (drop a.run.at a.s.now) a.s.now (length a.out.now) a.run c.requires
    (family_told c.from.result) c.from.ensures in
    rw e at c.requires

pub returns : goal.returns
returns c =
    let a = c.args in
    let e =
    in_family (column_told [] a.c) (drop a.run.at a.s.now) a.s.now (length a.out.now) a.run c.requires
    (family_told c.from.result) c.from.ensures in
    rw e c.normal_in.ensures
