-- `packed_value::Slot::is_value` meets its contract. Assumes nothing.
use borrow.Author.Tests.{lt-ltb, le-ltb, eq-eqb, ne_eqb}
use native.Mathlib.Omega.{arith}
use Rattle.packed_value.specs.Numbers.{is_value}
use Rattle.packed_value.proofs.Slot.is_value.Goals as goal

pub returns-then-self-gt7 : goal.returns-then-self-gt7
unfolding is_value
returns-then-self-gt7 c = rw (le-ltb c.args.self.kind 8 (omega (arith, c.if-self-gt7.true)))

pub returns-then-self-eq0 : goal.returns-then-self-eq0
unfolding is_value
returns-then-self-eq0 c =
    let s = c.args.self in
    rw (c.is_number.ensures, lt-ltb s.kind 8 (omega (arith, c.if-self-gt7.false)), eq-eqb s.second 0 c.if-self-eq0.true)

pub returns-else-self-eq0 : goal.returns-else-self-eq0
unfolding is_value
returns-else-self-eq0 c =
    let s = c.args.self in
    rw (lt-ltb s.kind 8 (omega (arith, c.if-self-gt7.false)), ne_eqb s.second 0 c.if-self-eq0.false)
