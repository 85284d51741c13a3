-- `plp::take_head` meets its contract: four bytes that are not there, a zero head, another head. Assumes nothing.
use mathlib.Core.Path.{sym, ◌∙◌}
use Prim.Native.Nat.{◌+◌, ◌≤◌}
use native.Mathlib.Omega.{arith}
use lib.ListN.{length}
use borrow.Author.Tests.{leb-true, leb-false}
use Rattle.plp.specs.Told.{walk_told}
use Rattle.plp.proofs.Heads.{head_missing, head_zero, head_chunk}
use Rattle.plp.proofs.take_head.Goals.{Then-inside}
use Rattle.plp.proofs.take_head.Goals as goal

-- the test said that the four bytes are there
there : (c : Then-inside) → let a = c.args in a.w.at + 4 ≤ length a.s.now
there c = leb-true _ _ (sym c.inside.ensures ∙ c.if-inside.true)

pub low_at-n-requires : goal.low_at-n-requires
low_at-n-requires c = (omega arith, there c)

pub end_of-requires : goal.end_of-requires
end_of-requires c = omega (arith, there (goal.at.end_of-requires c).Then-inside)

pub returns-then-n-eq0 : goal.returns-then-n-eq0
returns-then-n-eq0 c =
    let a = c.args in
    c.end_of.ensures ∙ sym (head_zero a.s.now (walk_told a.w) (there (goal.at.returns-then-n-eq0 c).Then-inside)
    (sym c.low_at-n.ensures.value ∙ c.if-n-eq0.true))

pub chunk_of-requires : goal.chunk_of-requires
chunk_of-requires c = there (goal.at.chunk_of-requires c).Then-inside

pub returns-then-inside : goal.returns-then-inside
returns-then-inside c =
    let a = c.args in
    c.chunk_of.ensures ∙ sym (head_chunk a.s.now (walk_told a.w) (there (goal.at.returns-then-inside c).Then-inside) _ c.low_at-n.ensures.value
    c.if-n-eq0.false)

pub returns : goal.returns
returns c =
    let a = c.args in
    sym (head_missing a.s.now (walk_told a.w) (leb-false _ _ (sym c.inside.ensures ∙ c.if-inside.false)))
