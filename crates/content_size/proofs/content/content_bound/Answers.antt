-- `content_size::content::content_bound` meets its contract: 65,535 is the mark, and its own bound. Assumes nothing.
use mathlib.Core.Path.{sym, ◌∙◌}
use Rattle.format.specs.Plp.{plp_bound}
use Rattle.content_size.proofs.content.content_bound.Goals as goal

pub returns-then-is_plp : goal.returns-then-is_plp
unfolding plp_bound
returns-then-is_plp c = rw (sym c.is_plp.ensures ∙ c.if-is_plp.true)

pub returns : goal.returns
returns c = rw (sym c.is_plp.ensures ∙ c.if-is_plp.false)
