-- `plp::walk_chunks` meets its contract. The invariant: what the walk comes to from the start is what it comes to from here, with the heads that are left and
-- those that were taken. Assumes nothing.
use mathlib.Core.Path.{◌≡◌, sym, ◌∙◌}
use Prim.Native.Nat.{◌-◌}
use Rattle.format.specs.Plp.{walk_from, walk_chunks}
use Rattle.wire.proofs.Exit.{exit_is}
use Rattle.plp.specs.Told.{walk_told}
use Rattle.plp.proofs.Heads.{walk_more, walk_refused, walk_stays, walk_spent, walk_behind_lem, walk_inside}
use Rattle.plp.proofs.walk_chunks.Goals.{At-loop-taken}
use Rattle.plp.proofs.walk_chunks.Goals as goal

pub returns-then-s-at : goal.returns-then-s-at
returns-then-s-at c = let a = c.args in sym (walk_behind_lem a.allowed a.s.now (walk_told a.w) c.if-s-at.true)

-- from the answer to what the loop has come to
answer : (c : At-loop-taken) →
    let a = c.args in
    let l = c.loop-taken in
    walk_chunks a.allowed a.s.now (walk_told a.w) ≡ walk_from (a.allowed - l.taken) a.s.now (walk_told l.v) l.taken
answer c =
    let a = c.args in
    walk_inside a.allowed a.s.now (walk_told a.w) c.if-s-at.false ∙ c.loop-taken.invariant

pub returns-then-v : goal.returns-then-v
returns-then-v c = sym (answer (goal.at.returns-then-v c).At-loop-taken ∙ walk_stays _ _ _ _ c.if-v.true)

pub loop-taken-preserved : goal.loop-taken-preserved
loop-taken-preserved c =
    c.loop-taken.invariant ∙ walk_more _ _ _ _ _ c.loop-taken-test.true c.if-v.false (sym c.in_ok-v.ensures)

pub returns-in_err-v : goal.returns-in_err-v
returns-in_err-v c =
    let r = walk_refused _ _ _ _ _ c.loop-taken-test.true c.if-v.false (sym c.in_err-v.ensures) in
    rw (exit_is _ _ c.from_residual.ensures.1) (sym (answer (goal.at.returns-in_err-v c).At-loop-taken ∙ r))

pub returns : goal.returns
returns c = sym (answer (goal.at.returns c).At-loop-taken ∙ walk_spent _ _ _ _ c.loop-taken.auto.taken-end c.loop-taken-test.false)
