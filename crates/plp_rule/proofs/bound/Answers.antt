-- `plp_rule::bound` meets its contract: the bound's one name. Assumes nothing.
use mathlib.Core.Path.{refl}
use Rattle.format.specs.Plp.{plp_bound}
use Rattle.plp_rule.proofs.bound.Goals as goal

pub returns : goal.returns
unfolding plp_bound
returns c = refl
