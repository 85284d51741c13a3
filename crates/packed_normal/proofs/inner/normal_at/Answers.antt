-- `packed_normal::inner::normal_at` meets its contract: the run grows by the width that the record tells, or as the column that is made says. Assumes nothing.
use mathlib.Core.Path.{◌≡◌, sym, ap, ◌∙◌}
use mathlib.Core.List.{[]}
use Prim.Native.Nat.{◌*◌, ◌≤◌}
use native.Mathlib.Omega.{arith}
use lib.ListN.{length, take, drop}
use Rattle.format.specs.Answer.{took}
use Rattle.format.specs.Descriptor as D
use Rattle.column_type.specs.Told.{column_told}
use Rattle.packed.specs.Packed.{column_of, no_names}
use Rattle.packed.specs.Made.{column_made, no_name}
use Rattle.packed.proofs.Told.{plain_told}
use Rattle.normal_step.specs.Steps.{normal_value}
use Rattle.value_normal.proofs.Growing.{fits_inside}
use Rattle.value_normal.proofs.Turns.{same_inside, same_grows}
use Rattle.plain_look.proofs.Standing.{written_there}
use Rattle.packed_normal.proofs.inner.normal_at.Goals.{Start, In-Some}
use Rattle.packed_normal.proofs.inner.normal_at.Goals as goal

-- its place lies inside
inside : (c : Start) → c.args.run.at ≤ length c.args.s.now
inside c = fits_inside c.args.s.now (length c.args.out.now) c.args.run
    (normal_value (column_told [] (column_made (drop (16 * c.args.i) c.args.table.now) no_name no_name no_name)) (drop c.args.run.at c.args.s.now))
    c.requires.1

pub width_at-requires : goal.width_at-requires
width_at-requires c = (c.requires.0, inside (goal.at.width_at-requires c).Start)

-- its place lies inside
inside_at_some : (c : In-Some) → c.args.run.at ≤ length c.args.s.now
inside_at_some c = fits_inside c.args.s.now (length c.args.out.now) c.args.run
    (normal_value (column_told [] (column_made (drop (16 * c.args.i) c.args.table.now) no_name no_name no_name)) (drop c.args.run.at c.args.s.now))
    c.requires.1

told : (c : In-Some) →
    let n = c.in-Some.n in
    took (take n (drop c.args.run.at c.args.s.now)) n ≡ (normal_value
    (column_told [] (column_made (drop (16 * c.args.i) c.args.table.now) no_name no_name no_name)) (drop c.args.run.at c.args.s.now))
told c =
    let n = c.in-Some.n in
    let there = c.in-Some.ensures in
    sym (written_there (column_of (drop (16 * c.args.i) c.args.table.now) no_names) c.args.s.now c.args.run.at there.0 n (inside_at_some c) there.1)
    ∙ ap (λ (d : D.Column). normal_value d (drop c.args.run.at c.args.s.now)) (sym (plain_told [] (drop (16 * c.args.i) c.args.table.now)))

pub overflow_add-result : goal.overflow_add-result
overflow_add-result c =
    let a = c.args in
    record {
      fits = omega (
        arith,
        same_inside a.s.now a.out.now a.run
            (normal_value (column_told [] (column_made (drop (16 * c.args.i) c.args.table.now) no_name no_name no_name)) (drop c.args.run.at c.args.s.now))
            c.requires.1 c.in-Some.n (told c),
        c.well_formed,
      );
    }

pub returns-in-Some : goal.returns-in-Some
returns-in-Some c =
    let a = c.args in
    same_grows a.s.now a.out.now a.run (normal_value (column_told [] (column_made (drop (16 * c.args.i) c.args.table.now) no_name no_name no_name))
    (drop c.args.run.at c.args.s.now)) c.requires.1 c.in-Some.n (told c)

pub normal_on-requires : goal.normal_on-requires
normal_on-requires c = rw c.column_at.ensures c.requires.1

pub returns-in-None : goal.returns-in-None
returns-in-None c = rw (← c.column_at.ensures) c.normal_on.ensures
