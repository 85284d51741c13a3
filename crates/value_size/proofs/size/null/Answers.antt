-- `value_size::size::null` meets its contract: each family's null, and none under a fixed type. Assumes nothing.
use mathlib.Core.Path.{sym, ◌∙◌}
use Rattle.format.specs.Answer.{wrote}
use Rattle.format.specs.Plp.{plp_bytes}
use Rattle.value_size.proofs.size.null.Goals as goal

pub returns-then-is_plp : goal.returns-then-is_plp
unfolding wrote plp_bytes
returns-then-is_plp c = rw (c.in-Content.is, (sym c.is_plp.ensures ∙ c.if-is_plp.true))

pub returns-in-Fixed : goal.returns-in-Fixed
unfolding wrote plp_bytes
returns-in-Fixed c = rw c.in-Fixed.is

pub returns-in-LengthByte : goal.returns-in-LengthByte
unfolding wrote plp_bytes
returns-in-LengthByte c = rw c.in-LengthByte.is

pub returns-else-is_plp : goal.returns-else-is_plp
unfolding wrote plp_bytes
returns-else-is_plp c = rw (c.in-Content.is, (sym c.is_plp.ensures ∙ c.if-is_plp.false))

pub returns-in-NotCarried : goal.returns-in-NotCarried
unfolding wrote plp_bytes
returns-in-NotCarried c = rw c.in-NotCarried.is
