-- `value_size::size::scalar` meets its contract: the bytes alone, or behind a length byte. Assumes nothing.
use Rattle.format.specs.Answer.{wrote}
use Rattle.value_kind.proofs.ScalarLaws.{fixed-scalar, listed-scalar}
use Rattle.value_size.proofs.size.scalar.Goals as goal

pub returns-in-Fixed : goal.returns-in-Fixed
returns-in-Fixed c = rw (c.in-Fixed.is, fixed-scalar c.args.declared c.args.s, ← c.kind.ensures) c.fixed.ensures

pub returns-in-LengthByte : goal.returns-in-LengthByte
returns-in-LengthByte c = rw (c.in-LengthByte.is, listed-scalar c.args.declared c.args.s, ← c.kind-in-LengthByte.ensures) c.listed.ensures

pub returns-in-Content : goal.returns-in-Content
unfolding wrote
returns-in-Content c = rw c.in-Content.is

pub returns-in-NotCarried : goal.returns-in-NotCarried
unfolding wrote
returns-in-NotCarried c = rw c.in-NotCarried.is
