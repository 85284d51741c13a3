-- `packed_value::is_number` meets its contract: each arm says which kind it is, and the last that it is none of them. Assumes nothing.
use borrow.Author.Tests.{ne_eqb}
use Rattle.packed_value.specs.Numbers.{is_number}
use Rattle.packed_value.proofs.is_number.Goals as goal

pub returns-in-0 : goal.returns-in-0
unfolding is_number
returns-in-0 c = rw c.in-0.is

pub returns-in-1 : goal.returns-in-1
unfolding is_number
returns-in-1 c = rw c.in-1.is

pub returns-in-2 : goal.returns-in-2
unfolding is_number
returns-in-2 c = rw c.in-2.is

pub returns-in-3 : goal.returns-in-3
unfolding is_number
returns-in-3 c = rw (c.in-3.is, c.widen_two.ensures)

pub returns-in-4 : goal.returns-in-4
unfolding is_number
returns-in-4 c = rw (c.in-4.is, c.widen_four.ensures)

pub returns-in-6 : goal.returns-in-6
unfolding is_number
returns-in-6 c = rw c.in-6.is

pub returns-in_default : goal.returns-in_default
unfolding is_number
returns-in_default c =
    let six = c.in_default.in_default-own.rest in
    let four = six.0 in
    let three = four.0 in
    let two = three.0 in
    let one = two.0 in
    simp (ne_eqb _ _ one.0.1, ne_eqb _ _ one.1, ne_eqb _ _ two.1, ne_eqb _ _ three.1, ne_eqb _ _ four.1, ne_eqb _ _ six.1)
