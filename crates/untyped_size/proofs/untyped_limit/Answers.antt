-- `untyped_size::untyped_limit` meets its contract: short content is within 8,000, PLP within its own bound. Assumes nothing.
use Rattle.format.specs.Value.{untyped_bound}
use Rattle.untyped_size.proofs.untyped_limit.Goals as goal

pub returns-else-short : goal.returns-else-short
unfolding untyped_bound
returns-else-short c = rw c.if-short.false
