-- `number::inner::put_low` meets its contract. The invariant: what is left to store, stored, gives what is promised. Assumes nothing.
use mathlib.Core.Path.{◌≡◌, refl, ◌∙◌}
use native.Mathlib.Omega.{arith}
use native.Mathlib.Nat.{sub_self, sub-zero, add-zero}
use borrow.Author.Rules.{rules}
use lib.ListN.{length-set}
use Rattle.number.proofs.Laws.{put_low_turn}
use Rattle.number.proofs.inner.put_low.Goals as goal

pub loop-i-init : goal.loop-i-init
loop-i-init c = (search rules, refl, simp (add-zero, sub-zero))

pub loop-i-preserved : goal.loop-i-preserved
loop-i-preserved c =
    let l = c.loop-i in (
      search rules,
      simp length-set l.invariant.1,
      put_low_turn l.out c.args.at c.args.w l.i l.m c.loop-i-test.true ∙ l.invariant.2,
    )

pub shape_of-out : goal.shape_of-out
shape_of-out c = c.loop-i.invariant.1

pub returns : goal.returns
returns c =
    let l = c.loop-i in
    let z : l.i ≡ c.args.w = omega arith in
    (simp (z, sub_self) at l.invariant.2)
