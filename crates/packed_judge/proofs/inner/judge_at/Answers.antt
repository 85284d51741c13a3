-- `packed_judge::inner::judge_at` meets its contract: one value behind the row so far; a refused row stays refused. Assumes nothing.
use mathlib.Core.Path.{refl}
use Rattle.packed_judge.proofs.inner.judge_at.Goals as goal

pub behind-requires : goal.behind-requires
behind-requires c = (c.requires.0, rw c.in-Ok.is at c.requires.1)

pub returns-in-Ok : goal.returns-in-Ok
returns-in-Ok c = rw c.in-Ok.is c.behind.ensures

pub returns-in-Err : goal.returns-in-Err
returns-in-Err c = rw c.in-Err.is (record { told = λ b. refl; inside = tt })
