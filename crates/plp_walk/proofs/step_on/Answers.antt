-- `plp_walk::step_on` meets its contract: what the walk over chunks answers, and the old place at a refusal. Assumes nothing.
use mathlib.Core.Path.{ap}
use Rattle.format.specs.Plp.{moved_by, stepped}
use Rattle.plp_walk.specs.Told.{standing_told}
use Rattle.plp_walk.proofs.step_on.Goals as goal

pub returns-in-Ok : goal.returns-in-Ok
unfolding stepped
returns-in-Ok c = let a = c.args in ap (moved_by (standing_told a.s.now a.from)) c.in-Ok.ensures

pub returns-in-Err : goal.returns-in-Err
unfolding stepped
returns-in-Err c = let a = c.args in ap (moved_by (standing_told a.s.now a.from)) c.in-Err.ensures
