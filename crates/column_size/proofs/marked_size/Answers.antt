-- `column_size::marked_size` meets its contract: names that fit are short, so that the sum does not wrap. Assumes nothing.
use mathlib.Core.Path.{sym}
use native.Mathlib.Omega.{arith}
use Rattle.column_type.proofs.WriteLaws.{fitting, length_names}
use Rattle.column_size.proofs.marked_size.Goals as goal

pub overflow_mul-result : goal.overflow_mul-result
overflow_mul-result c =
    let a = c.args in
    let f = fitting a.names.now c.in-Some.three.database c.in-Some.three.owner c.in-Some.three.collection (rw c.in-Some.is at c.requires) in
    omega (arith, f.database_units, f.owner_units, f.collection_units)

pub overflow_add-result : goal.overflow_add-result
overflow_add-result c =
    let a = c.args in
    let f = fitting a.names.now c.in-Some.three.database c.in-Some.three.owner c.in-Some.three.collection (rw c.in-Some.is at c.requires) in
    omega (arith, f.database_units, f.owner_units, f.collection_units)

pub overflow_mul-result-in-Some : goal.overflow_mul-result-in-Some
overflow_mul-result-in-Some c =
    let a = c.args in
    let f = fitting a.names.now c.in-Some.three.database c.in-Some.three.owner c.in-Some.three.collection (rw c.in-Some.is at c.requires) in
    omega (arith, f.database_units, f.owner_units, f.collection_units)

pub overflow_add-result-in-Some : goal.overflow_add-result-in-Some
overflow_add-result-in-Some c =
    let a = c.args in
    let f = fitting a.names.now c.in-Some.three.database c.in-Some.three.owner c.in-Some.three.collection (rw c.in-Some.is at c.requires) in
    omega (arith, f.database_units, f.owner_units, f.collection_units)

pub overflow_mul-result-in-Some-2 : goal.overflow_mul-result-in-Some-2
overflow_mul-result-in-Some-2 c =
    let a = c.args in
    let f = fitting a.names.now c.in-Some.three.database c.in-Some.three.owner c.in-Some.three.collection (rw c.in-Some.is at c.requires) in
    omega (arith, f.database_units, f.owner_units, f.collection_units)

pub overflow_add-result-in-Some-2 : goal.overflow_add-result-in-Some-2
overflow_add-result-in-Some-2 c =
    let a = c.args in
    let f = fitting a.names.now c.in-Some.three.database c.in-Some.three.owner c.in-Some.three.collection (rw c.in-Some.is at c.requires) in
    omega (arith, f.database_units, f.owner_units, f.collection_units)

pub returns-in-Some : goal.returns-in-Some
returns-in-Some c =
    let a = c.args in
    let f = fitting a.names.now c.in-Some.three.database c.in-Some.three.owner c.in-Some.three.collection (rw c.in-Some.is at c.requires) in (
      rw c.in-Some.is (sym (length_names a.names.now c.in-Some.three.database c.in-Some.three.owner c.in-Some.three.collection f.database
          f.owner f.collection)),
      omega (arith, f.database_units, f.owner_units, f.collection_units),
    )
