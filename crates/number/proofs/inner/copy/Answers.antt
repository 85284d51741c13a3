-- `number::inner::copy` meets its contract. The invariant: the first i bytes of the source stand at the front, and the rest is as it was. Assumes nothing.
use mathlib.Core.Path.{◌≡◌, refl, ◌∙◌}
use native.Mathlib.Omega.{arith}
use borrow.Author.Rules.{rules}
use lib.ListN.{length, length-set}
use Rattle.lists.proofs.Front.{front_none, front_turn, front_all}
use Rattle.number.proofs.inner.copy.Goals as goal

pub loop-i-init : goal.loop-i-init
loop-i-init c = (search rules, refl, front_none _ _)

pub loop-i-preserved : goal.loop-i-preserved
loop-i-preserved c =
    let l = c.loop-i in
    let a = c.args in (
      search rules,
      simp length-set l.invariant.1,
      front_turn a.src.now l.dst a.dst.now l.i c.loop-i-test.true c.requires l.invariant.2,
    )

pub shape_of-dst : goal.shape_of-dst
shape_of-dst c = c.loop-i.invariant.1

pub returns : goal.returns
returns c =
    let l = c.loop-i in
    let a = c.args in
    let z : l.i ≡ length a.src.now = omega arith in
    l.invariant.2 ∙ front_all a.src.now l.i a.dst.now z
