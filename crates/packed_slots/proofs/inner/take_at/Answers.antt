-- `packed_slots::inner::take_at` meets its contract: by the width that the record tells, or by the column that is made. Assumes nothing.
use Rattle.std.specs.Prelude.{Some}
use mathlib.Core.Path.{◌≡◌, ap, ◌∙◌}
use mathlib.Core.List.{List, []}
use Prim.Native.Nat.{ℕ, ◌*◌}
use native.Mathlib.Omega.{arith}
use lib.ListN.{drop}
use Rattle.column_type.specs.Told.{column_told}
use Rattle.packed.specs.Packed.{column_of, no_names}
use Rattle.packed.proofs.Told.{plain_told}
use Rattle.read_step.specs.Told.{place_told}
use Rattle.plain_look.specs.Stands.{Stands, HasBytes, value_in}
use Rattle.plain_look.proofs.Standing.{ends-inside}
use Rattle.packed_slots.proofs.Taking.{taken-width}
use Rattle.packed_slots.proofs.inner.take_at.Goals.{After-column_at, In-Some}
use Rattle.packed_slots.proofs.inner.take_at.Goals as goal

-- the value
there : (c : In-Some) →
    let a = c.args in
    let rest = drop a.place.cursor.at a.s.now in
    let p = Some c.in-Some.p in
    Stands (column_of (drop (16 * c.args.i) c.args.table.now) no_names) rest (value_in p rest) c.in-Some.n × HasBytes p rest
there c = c.in-Some.ensures

pub slot_in-requires : goal.slot_in-requires
slot_in-requires c = (there (goal.at.slot_in-requires c).In-Some).1

pub overflow_add-result : goal.overflow_add-result
overflow_add-result c =
    let a = c.args in
    let rest = drop a.place.cursor.at a.s.now in
    let v = value_in (Some c.in-Some.p) rest in
    let inside = ends-inside (column_of (drop (16 * c.args.i) c.args.table.now) no_names) a.s.now a.place.cursor.at v c.in-Some.n c.requires.2
    (there (goal.at.overflow_add-result c).In-Some).0 in
    record { fits = omega (arith, inside, c.well_formed) }

pub returns-in-Some : goal.returns-in-Some
returns-in-Some c =
    let a = c.args in
    taken-width (column_of (drop (16 * c.args.i) c.args.table.now) no_names) a.s.now (place_told a.place) (Some c.in-Some.p) c.in-Some.n
    c.requires.2 (there (goal.at.returns-in-Some c).In-Some).0
    (3 * a.i) a.values.now a.out.now _ (rw c.slot_in.ensures at c.store.ensures)

-- the column that is made tells the record's
made_told : (c : After-column_at) (b : List ℕ) → column_told b c.column_at.result ≡ (column_of (drop (16 * c.args.i) c.args.table.now) no_names)
made_told c b = ap (column_told b) c.column_at.ensures ∙ plain_told b (drop (16 * c.args.i) c.args.table.now)

pub take_value-requires : goal.take_value-requires
take_value-requires c = (c.requires.1, λ b. rw (made_told (goal.at.take_value-requires c).After-column_at b) c.requires.3)

pub returns-in-None : goal.returns-in-None
returns-in-None c = rw (← made_told (goal.at.returns-in-None c).After-column_at []) (c.take_value.ensures [])
