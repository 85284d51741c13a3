-- `number::inner::high_at` meets its contract. The invariant: n, with the bytes not yet read behind it, is the number. Assumes nothing.
use mathlib.Core.Path.{◌≡◌, ◌∙◌}
use Prim.Native.Nat.{◌+◌, ◌*◌, ◌<◌, ◌^◌}
use native.Mathlib.Omega.{arith}
use native.Mathlib.Nat.{sub_self, sub-zero, add-zero}
use borrow.Author.Rules.{rules}
use lib.Dec.{lit<}
use Rattle.number.proofs.Laws.{high_turn, high_turn_lt}
use Rattle.number.proofs.inner.high_at.Goals as goal

pub loop-i-init : goal.loop-i-init
loop-i-init c = (search rules, simp (add-zero, sub-zero), lit< tt)

pub overflow_mul-n : goal.overflow_mul-n
overflow_mul-n c =
    let l = c.loop-i in
    omega (arith, (high_turn_lt _ _ _ 0 c.loop-i-test.true c.requires.0 l.invariant.2 (lit< tt)).1)

next : (c : goal.After-wide) →
    (c.loop-i.n * 256 + c.wide.result < 256 ^ (c.loop-i.i + 1)) ×
    (c.loop-i.n * 256 + c.wide.result < 2 ^ 64)
next c =
    let l = c.loop-i in
    high_turn_lt _ _ _ _ c.loop-i-test.true c.requires.0 l.invariant.2
    (rw c.wide.ensures (omega (arith, c.type_inv.s (c.args.at + l.i))))

pub overflow_add-n : goal.overflow_add-n
overflow_add-n c = record { fits = (next c).1 }

pub loop-i-preserved : goal.loop-i-preserved
loop-i-preserved c =
    let l = c.loop-i in (
      search rules,
      rw c.wide.ensures
          (high_turn c.args.s.now c.args.at c.args.w l.i l.n c.loop-i-test.true c.requires.1) ∙ l.invariant.1,
      (next c).0,
    )

pub returns : goal.returns
returns c =
    let l = c.loop-i in
    let z : l.i ≡ c.args.w = omega arith in
    record {
      value = simp (z, sub_self) at l.invariant.1;
      small = simp z at l.invariant.2;
    }
