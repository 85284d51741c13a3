-- `read_step::inner::join_on` meets its contract: what was taken, without the value. Assumes nothing.
use mathlib.Core.List.{[]}
use lib.ListN.{length}
use Rattle.format.specs.Answer.{read_at}
use Rattle.format.specs.Value.{read_value}
use Rattle.column_type.specs.Told.{column_told}
use Rattle.read_step.proofs.Placing.{place_behind_lem, never_refused}
use Rattle.read_step.proofs.inner.join_on.Goals as goal

pub returns-in-Ok : goal.returns-in-Ok
returns-in-Ok c =
    let a = c.args in
    λ b.
    let d = column_told b a.c in
    let at = a.place.cursor.at in
    let told = c.in-Ok.ensures.told b in
    (place_behind_lem d at a.place.copied (read_at (read_value d) a.s.now at) _ _ told, c.take_on.ensures.room b)

pub returns-in-Err : goal.returns-in-Err
returns-in-Err c =
    let a = c.args in
    let d = column_told [] a.c in
    let at = a.place.cursor.at in
    let told = c.in-Err.ensures.told [] in
    never_refused d at a.place.copied (length a.out.now) (read_at (read_value d) a.s.now at) _ (c.requires []) told
