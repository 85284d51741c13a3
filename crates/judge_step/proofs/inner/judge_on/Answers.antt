-- `judge_step::inner::judge_on` meets its contract: one value behind the row so far; a refused row stays refused. Assumes nothing.
use mathlib.Core.Path.{refl}
use Rattle.judge_step.proofs.inner.judge_on.Goals as goal

pub behind-requires : goal.behind-requires
behind-requires c = rw c.in-Ok.is at c.requires

pub returns-in-Ok : goal.returns-in-Ok
returns-in-Ok c = rw c.in-Ok.is c.behind.ensures

pub returns-in-Err : goal.returns-in-Err
returns-in-Err c = rw c.in-Err.is (record { told = λ b. refl; inside = tt })
