-- `row_step::inner::size_on` meets its contract: the value's size behind the sum, or the first refusal. The sum does not overflow, since it is that of at most
-- 1,024 values and no value takes more than `most_of`. Assumes nothing.
use Prim.Native.Nat.{◌*◌, ◌≤◌}
use native.Mathlib.Omega.{arith}
use Rattle.format.specs.Value.{write_value}
use Rattle.wire.proofs.Exit.{exit_is}
use Rattle.column_type.specs.Told.{column_told}
use Rattle.value_kind.specs.Told.{value_told}
use Rattle.row_step.specs.Steps.{most_of}
use Rattle.row_step.proofs.Most.{most_wrote}
use Rattle.row_step.proofs.Adding.{added, added_refused}
use Rattle.row_step.proofs.inner.size_on.Goals as goal

pub overflow_add-result : goal.overflow_add-result
overflow_add-result c =
    let a = c.args in
    let n : c.in_ok-sum.sum ≤ 1024 * most_of = rw c.in_ok-sum.was at c.requires in
    record { fits = omega (arith, n, most_wrote a.buffer.now (column_told a.buffer.now a.c) a.v _ c.in_ok-n.ensures) }

pub returns-in_err-sum : goal.returns-in_err-sum
returns-in_err-sum c = rw (exit_is _ _ c.from_residual.ensures.1, c.in_err-sum.was)

pub returns-in_err-n : goal.returns-in_err-n
returns-in_err-n c =
    rw (exit_is _ _ c.from_residual-in_err-n.ensures.1, c.in_ok-sum.was)
    (added_refused (write_value (column_told c.args.buffer.now c.args.c) (value_told c.args.buffer.now c.args.v)) c.in_ok-sum.sum _ c.in_err-n.ensures)

pub returns : goal.returns
returns c =
    rw c.in_ok-sum.was
    (added (write_value (column_told c.args.buffer.now c.args.c) (value_told c.args.buffer.now c.args.v)) c.in_ok-sum.sum c.in_ok-n.n c.in_ok-n.ensures)
