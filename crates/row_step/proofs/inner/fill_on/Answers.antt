-- `row_step::inner::fill_on` meets its contract: the value's writer, lent the unused rest of the room, puts the bytes at the place. It is not refused, since
-- the bytes fit. Assumes nothing.
use mathlib.Core.Path.{ap}
use Prim.Native.Nat.{ℕ, ◌+◌}
use native.Mathlib.Omega.{arith}
use Rattle.format.specs.Value.{write_value}
use Rattle.column_type.specs.Told.{column_told}
use Rattle.value_kind.specs.Told.{value_told}
use Rattle.row_step.proofs.Placing.{place_in, placed-count, placed-room, not_placed}
use Rattle.row_step.proofs.inner.fill_on.Goals as goal

pub slice_bounds-write_value-count : goal.slice_bounds-write_value-count
slice_bounds-write_value-count c = omega (
  arith,
  place_in c.args.out.now c.args.at
      (write_value (column_told c.args.buffer.now c.args.c) (value_told c.args.buffer.now c.args.v)) c.requires,
)

pub slice_bounds-write_value-start : goal.slice_bounds-write_value-start
slice_bounds-write_value-start c = omega (
  arith,
  place_in c.args.out.now c.args.at
      (write_value (column_told c.args.buffer.now c.args.c) (value_told c.args.buffer.now c.args.v)) c.requires,
)

pub returns-in-Ok : goal.returns-in-Ok
returns-in-Ok c =
    let a = (write_value (column_told c.args.buffer.now c.args.c) (value_told c.args.buffer.now c.args.v)) in
    let n = placed-count c.args.out.now c.args.at a c.requires _ c.in-Ok.ensures.answer in (
      ap (λ (k : ℕ). c.args.at + k) n,
      placed-room c.args.out.now c.args.at a c.requires _ c.in-Ok.ensures.room,
    )

pub overflow_add-result : goal.overflow_add-result
overflow_add-result c =
    let a = (write_value (column_told c.args.buffer.now c.args.c) (value_told c.args.buffer.now c.args.v)) in
    let n = placed-count c.args.out.now c.args.at a c.requires _ c.in-Ok.ensures.answer in
    record { fits = omega (arith, n, place_in c.args.out.now c.args.at a c.requires) }

pub returns-in-Err : goal.returns-in-Err
returns-in-Err c =
    not_placed c.args.out.now c.args.at (write_value (column_told c.args.buffer.now c.args.c) (value_told c.args.buffer.now c.args.v)) c.requires _
    c.in-Err.ensures.answer
