-- `packed_slots::inner::take_value` meets its contract: the value that was taken is put down. Assumes nothing.
use mathlib.Core.Path.{sym, ap, ◌∙◌}
use mathlib.Core.List.{[]}
use lib.ListN.{length}
use Rattle.format.specs.Answer.{read_at}
use Rattle.format.specs.Value.{read_value}
use Rattle.column_type.specs.Told.{column_told}
use Rattle.row_place.specs.Told.{row_value_told}
use Rattle.read_step.specs.Told.{place_told}
use Rattle.read_step.proofs.Placing.{never_refused}
use Rattle.packed_slots.proofs.Taking.{taken_of}
use Rattle.packed_slots.proofs.inner.take_value.Goals as goal

pub slot_of-requires : goal.slot_of-requires
slot_of-requires c = rw c.in-Ok.is at c.take_on-v.ensures.canonical

pub returns-in-Ok : goal.returns-in-Ok
returns-in-Ok c b =
    let a = c.args in
    let d = column_told b a.c in
    let told = ap row_value_told (sym c.in-Ok.is) ∙ c.take_on-v.ensures.told b in
    taken_of d (read_at (read_value d) a.s.now a.place.cursor.at) (place_told a.place) a.at a.values.now a.out.now _ _ _ _ told
    (rw c.slot_of.ensures at c.store.ensures) (c.take_on-v.ensures.room b)

pub returns-in-Err : goal.returns-in-Err
returns-in-Err c =
    let a = c.args in
    let d = column_told [] a.c in
    let at = a.place.cursor.at in
    let told = ap row_value_told (sym c.in-Err.is) ∙ c.take_on-v.ensures.told [] in
    never_refused d at a.place.copied (length a.out.now) (read_at (read_value d) a.s.now at) _ (c.requires.1 []) told
