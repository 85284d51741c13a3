-- `packed_judge::inner::behind` meets its contract: by the width that the record tells, or by the column that is made. Assumes nothing.
use Prim.Native.Nat.{◌+◌, ◌*◌, ◌≤◌}
use native.Mathlib.Omega.{arith}
use lib.ListN.{length, drop}
use Rattle.format.specs.Value.{Value}
use Rattle.packed.specs.Packed.{column_of, no_names}
use Rattle.packed.proofs.Told.{plain_told}
use Rattle.judge_step.specs.Told.{needs_told}
use Rattle.plain_look.specs.Stands.{Stands}
use Rattle.plain_look.proofs.Standing.{ends-inside}
use Rattle.packed_judge.proofs.Widths.{judged_width}
use Rattle.packed_judge.proofs.inner.behind.Goals.{In-Some}
use Rattle.packed_judge.proofs.inner.behind.Goals as goal

-- the value
there : (c : In-Some) →
    (v : Value) × Stands (column_of (drop (16 * c.args.i) c.args.table.now) no_names) (drop c.args.row.next.at c.args.s.now) v c.in-Some.n
there c = c.in-Some.ensures

inside : (c : In-Some) →
    c.args.row.next.at + c.in-Some.n ≤ length c.args.s.now
inside c =
    let a = c.args in
    ends-inside (column_of (drop (16 * c.args.i) c.args.table.now) no_names) a.s.now a.row.next.at (there c).0 c.in-Some.n c.requires.1.0 (there c).1

pub overflow_add-result : goal.overflow_add-result
overflow_add-result c = record { fits = omega (arith, inside c, c.well_formed) }

pub overflow_add-result-in-Some : goal.overflow_add-result-in-Some
overflow_add-result-in-Some c = record { fits = omega (arith, inside (goal.at.overflow_add-result-in-Some c).In-Some, c.requires.1.2, c.well_formed) }

pub returns-in-Some : goal.returns-in-Some
returns-in-Some c =
    let a = c.args in
    let d = (column_of (drop (16 * c.args.i) c.args.table.now) no_names) in record {
      told = λ b.
          rw (plain_told b (drop (16 * c.args.i) c.args.table.now))
          (judged_width d a.s.now a.row.next.at (there (goal.at.returns-in-Some c).In-Some).0 c.in-Some.n c.requires.1.0
          (there (goal.at.returns-in-Some c).In-Some).1 (needs_told a.row));
      inside = (inside (goal.at.returns-in-Some c).In-Some, omega (arith, c.requires.1.1), omega (arith, c.requires.1.2));
    }

pub returns-in-None : goal.returns-in-None
returns-in-None c = rw (← c.column_at.ensures) c.judge_on.ensures
