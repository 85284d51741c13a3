-- `untyped_size::untyped_size` meets its contract: each kind of value with its own descriptor. Assumes nothing.
use Rattle.value_kind.specs.Told.{kind_told}
use native.Mathlib.Omega.{arith}
use Rattle.format.specs.Answer.{wrote}
use Rattle.format.specs.Value.{write_untyped}
use Rattle.value_kind.proofs.ScalarLaws.{untyped_scalar, width_most}
use Rattle.untyped_size.proofs.untyped_size.Goals as goal

pub overflow_add-result : goal.overflow_add-result
overflow_add-result c = record { fits = omega (arith, c.bytes.ensures, width_most (kind_told c.kind.result)) }

pub returns-in-Null : goal.returns-in-Null
unfolding wrote write_untyped
returns-in-Null c = rw c.in-Null.is

pub returns-in-Scalar : goal.returns-in-Scalar
returns-in-Scalar c = rw (c.in-Scalar.is, untyped_scalar _, c.bytes.ensures, c.kind.ensures)

pub returns-in-Binary : goal.returns-in-Binary
returns-in-Binary c = rw c.in-Binary.is c.untyped_content.ensures

pub returns-in-String : goal.returns-in-String
returns-in-String c = rw c.in-String.is c.untyped_content-in-String.ensures
