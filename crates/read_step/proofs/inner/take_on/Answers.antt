-- `read_step::inner::take_on` meets its contract: the value's reader, lent the room and told what was copied before, puts the content there. It is not refused,
-- since the value is there and its content fits. Assumes nothing.
use mathlib.Core.Path.{◌≡◌, refl, ap}
use mathlib.Core.List.{[]}
use Prim.Native.Nat.{◌≤◌}
use native.Mathlib.Omega.{arith}
use lib.ListN.{length, length-drop}
use Rattle.lists.proofs.Lent.{rest_is}
use Rattle.column_type.specs.Told.{column_told}
use Rattle.value_kind.proofs.ColumnLaws.{length_fits_lem}
use Rattle.read_step.proofs.Placing.{is_inside, is_kept, is_room, not_refused, count_fits, placed_there, room_holds}
use Rattle.read_step.proofs.inner.take_on.Goals.{Start}
use Rattle.read_step.proofs.inner.take_on.Goals as goal

pub overflow_cast-c : goal.overflow_cast-c
overflow_cast-c c =
    let a = c.args in
    let k = is_kept (column_told [] a.c) a.s.now a.out.now a.place.cursor.at a.place.copied (c.requires []) in
    record { fits = omega (arith, length_fits_lem (column_told [] a.c) k) }

-- the place is inside, the rule is kept, and what was copied before lies in the room
inside : (c : Start) → c.args.place.cursor.at ≤ length c.args.s.now
inside c = let a = c.args in is_inside (column_told [] a.c) a.s.now a.out.now a.place.cursor.at a.place.copied (c.requires [])

pub slice_bounds-read_in-count : goal.slice_bounds-read_in-count
slice_bounds-read_in-count c = omega (arith, inside (goal.at.slice_bounds-read_in-count c).Start)

pub slice_bounds-read_in-start : goal.slice_bounds-read_in-start
slice_bounds-read_in-start c = omega (arith, inside (goal.at.slice_bounds-read_in-start c).Start)

room : (c : Start) → c.args.place.copied ≤ length c.args.out.now
room c = let a = c.args in is_room (column_told [] a.c) a.s.now a.out.now a.place.cursor.at a.place.copied (c.requires [])

pub read_in-requires : goal.read_in-requires
read_in-requires c =
    let l = ap length (rest_is c.args.s.now c.args.place.cursor.at) in (
      omega (arith, c.well_formed, inside (goal.at.read_in-requires c).Start, l, length-drop c.args.place.cursor.at c.args.s.now),
      omega (arith, room (goal.at.read_in-requires c).Start),
    )

pub returns-in_err-found : goal.returns-in_err-found
returns-in_err-found c =
    let a = c.args in
    let d = column_told [] a.c in
    let r = rest_is a.s.now a.place.cursor.at in
    not_refused d a.s.now a.out.now a.place.cursor.at a.place.copied (c.requires []) _ _ _ refl c.from.ensures r _ (c.in_err-found.ensures.told d refl)

pub overflow_add-result : goal.overflow_add-result
overflow_add-result c =
    let a = c.args in
    let d = column_told [] a.c in
    let r = rest_is a.s.now a.place.cursor.at in
    let m = count_fits d a.s.now a.out.now a.place.cursor.at a.place.copied (c.requires []) _ _ _ refl c.from.ensures r _ _
    (c.in_ok-found.ensures.told d refl) in
    record { fits = omega (arith, m, c.copied.ensures, c.well_formed) }

pub returns : goal.returns
returns c =
    let a = c.args in
    let f = c.from.ensures in
    let r = rest_is a.s.now a.place.cursor.at in
    record {
      told = λ b.
          let d = column_told b a.c in
          rw c.copied.ensures
          (placed_there d a.s.now a.out.now a.place.cursor.at a.place.copied (c.requires b) _ _ _ refl f r _ _ (c.in_ok-found.ensures.told d refl));
      canonical = c.in_ok-found.ensures.canonical;
      room = λ b.
          let d = column_told b a.c in
          room_holds d a.s.now a.out.now a.place.cursor.at a.place.copied (c.requires b) _ _ _ refl f r _ (c.in_ok-found.ensures.room d refl);
    }
