-- `packed_value::ValueFromSlot::from` meets its contract: each arm says which kind it is, and the last that it is none of them. Assumes nothing.
use mir.Syntax.{w16, w32, w64}
use mir.Facts.{to_z-of_z}
use mathlib.Core.Path.{◌≡◌}
use Prim.Native.Nat.{ℕ, ◌%◌, ◌^◌, ◌<◌}
use native.Mathlib.Nat.{mod-eq_of_lt}
use borrow.Author.Tests.{ne_eqb}
use Rattle.packed_value.specs.Made.{value_made}
use borrow.Author.Rules.{rules}
use Rattle.packed_value.proofs.ValueFromSlot.from.Goals as goal

whole : (n : ℕ) → n < 18446744073709551616 → n % 256 ^ 8 ≡ n
whole n l = mod-eq_of_lt l

pub returns-in-1 : goal.returns-in-1
unfolding value_made
returns-in-1 c = rw c.in-1.is

pub returns-in-2 : goal.returns-in-2
unfolding value_made
returns-in-2 c = rw c.in-2.is

pub returns-in-3 : goal.returns-in-3
unfolding value_made
returns-in-3 c = rw (c.in-3.is, to_z-of_z {w = w16} (record { sfits = c.to_i16.type_inv }), c.to_i16.ensures)

pub returns-in-4 : goal.returns-in-4
unfolding value_made
returns-in-4 c = rw (c.in-4.is, to_z-of_z {w = w32} (record { sfits = c.to_i32.type_inv }), c.to_i32.ensures)

pub returns-in-5 : goal.returns-in-5
unfolding value_made
returns-in-5 c = rw (c.in-5.is, to_z-of_z {w = w64} (record { sfits = c.to_i64.type_inv }), c.to_i64.ensures)

pub returns-in-6 : goal.returns-in-6
unfolding value_made
returns-in-6 c = rw (c.in-6.is, c.from-in-6.ensures, c.from.ensures)

pub returns-in-7 : goal.returns-in-7
unfolding value_made
returns-in-7 c = rw (c.in-7.is, c.from-in-7-2.ensures, c.from-in-7.ensures, whole c.args.s.first (search rules))

pub returns-in-8 : goal.returns-in-8
unfolding value_made
returns-in-8 c = rw c.in-8.is

pub returns-in-9 : goal.returns-in-9
unfolding value_made
returns-in-9 c = rw c.in-9.is

pub returns-in-10 : goal.returns-in-10
unfolding value_made
returns-in-10 c = rw c.in-10.is

pub returns-in_default : goal.returns-in_default
unfolding value_made
returns-in_default c =
    let ten = c.in_default.in_default-own.rest in
    let nine = ten.0 in
    let eight = nine.0 in
    let seven = eight.0 in
    let six = seven.0 in
    let five = six.0 in
    let four = five.0 in
    let three = four.0 in
    let two = three.0 in
    simp (
      ne_eqb _ _ two.0.1,
      ne_eqb _ _ two.1,
      ne_eqb _ _ three.1,
      ne_eqb _ _ four.1,
      ne_eqb _ _ five.1,
      ne_eqb _ _ six.1,
      ne_eqb _ _ seven.1,
      ne_eqb _ _ eight.1,
      ne_eqb _ _ nine.1,
      ne_eqb _ _ ten.1,
    )
