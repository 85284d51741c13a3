-- A normal form that was answered fits the room.
use Rattle.std.proofs.Common.{[]}
use Rattle.normal_step.proofs.Fits.{count_fits}
use Rattle.example_limits.proofs.form.Goals as goal

pub returns-in-Ok : goal.returns-in-Ok
returns-in-Ok c = count_fits _ _ _ _ (c.in-Ok.ensures.answer [])
