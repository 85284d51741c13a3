-- `packed_size::size_at` meets its contract: a size that the numbers tell is the value's; the sum stays small, since such a value has at most 17 bytes.
-- Assumes nothing.
use Rattle.std.specs.Prelude.{Some}
use mathlib.Core.List.{List}
use Prim.Native.Nat.{ℕ, ◌+◌, ◌*◌, ◌^◌, ◌<◌}
use native.Mathlib.Omega.{arith}
use lib.ListN.{get_or}
use Rattle.plain_write.specs.Bytes.{plain_bytes, Takes, written_at}
use Rattle.plain_write.proofs.Plainly.{kind_at, first_at, second_at, taken_at}
use Rattle.packed_size.proofs.size_at.Goals.{In-Some}
use Rattle.packed_size.proofs.size_at.Goals as goal

pub overflow_add-result : goal.overflow_add-result
overflow_add-result c = record { fits = omega (arith, c.requires.2, c.in-Some.ensures.1) }

-- the value, by its numbers
abbrev bytes : (c : In-Some) → List ℕ
bytes c =
    let a = c.args in
    let t = a.table.now in
    let vs = a.values.now in
    let b = a.buffer.now in
    plain_bytes (Some c.in-Some.field-0-0) (kind_at t vs b a.i) (first_at t vs b a.i) (second_at t vs b a.i)

taken : (c : In-Some) →
    let a = c.args in
    Takes (written_at a.table.now a.values.now a.buffer.now a.i) (bytes c) c.in-Some.n
taken c =
    let a = c.args in
    let small : get_or a.values.now (3 * a.i + 1) 0 < 256 ^ 8 = omega (arith, c.type_inv.values (3 * a.i + 1)) in
    taken_at a.table.now a.values.now a.buffer.now a.i (Some c.in-Some.field-0-0) c.in-Some.n
    c.in-Some.ensures.0 c.in-Some.ensures.2 small

pub returns-in-Some : goal.returns-in-Some
returns-in-Some c = rw ((taken c).written, (taken c).counted)
