-- `number::inner::low_at` meets its contract. The invariant: n is the number in the bytes from at + i up to at + w. Assumes nothing.
use mathlib.Core.Path.{◌≡◌, ◌∙◌}
use Prim.Native.Nat.{◌+◌, ◌-◌, ◌<◌}
use native.Mathlib.Omega.{arith}
use native.Mathlib.Nat.{sub_self, sub-zero, add-zero}
use lib.Dec.{lit<}
use borrow.Author.Rules.{rules}
use Rattle.number.proofs.Laws.{low_turn, low_turn_lt, low_turn_fits}
use Rattle.number.proofs.inner.low_at.Goals as goal

pub loop-i-init : goal.loop-i-init
loop-i-init c = (search rules, simp sub_self, simp sub_self (lit< tt))

pub overflow_mul-n : goal.overflow_mul-n
overflow_mul-n c =
    let l = c.loop-i in
    omega (arith, low_turn_fits _ _ _ 0 c.loop-i-test.true l.invariant.0 c.requires.0 l.invariant.2 (lit< tt))

byte-lt : (c : goal.After-wide) → c.wide.result < 256
byte-lt c =
    rw c.wide.ensures (omega (arith, c.type_inv.s (c.args.at + (c.loop-i.i - 1))))

pub overflow_add-n : goal.overflow_add-n
overflow_add-n c =
    let l = c.loop-i in
    record { fits = low_turn_fits _ _ _ _ c.loop-i-test.true l.invariant.0 c.requires.0 l.invariant.2 (byte-lt c) }

pub loop-i-preserved : goal.loop-i-preserved
loop-i-preserved c =
    let l = c.loop-i in
    let a = c.args in
    let p = c.loop-i-test.true in (
      search rules,
      rw c.wide.ensures (low_turn a.s.now a.at a.w l.i l.n p l.invariant.0 c.requires.1 l.invariant.1),
      low_turn_lt _ _ _ _ p l.invariant.0 l.invariant.2 (byte-lt c),
    )

pub returns : goal.returns
returns c =
    let l = c.loop-i in
    let z : l.i ≡ 0 = omega arith in
    record {
      value = l.invariant.1 ∙ simp (z, sub-zero, add-zero);
      small = simp (z, sub-zero) at l.invariant.2;
    }
