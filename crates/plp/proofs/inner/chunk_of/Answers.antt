-- `plp::inner::chunk_of` meets its contract: the bound, then the total, then the chunk's bytes, in the definition's order. Assumes nothing.
use mathlib.Core.Path.{◌≡◌, ap, sym, ◌∙◌}
use mathlib.Core.Bool.{Bool}
use Prim.Native.Nat.{ℕ, ◌+◌}
use native.Mathlib.Omega.{arith}
use lib.Dec.{ltb}
use borrow.Author.Tests.{ltb-false}
use Rattle.format.specs.Plp.{plp_bound}
use Rattle.format.proofs.Plp.{bound-said}
use Rattle.plp.specs.Told.{walk_told}
use Rattle.plp.proofs.Heads.{chunk-long, chunk-above, chunk-missing, chunk-taken}
use Rattle.plp.proofs.inner.chunk_of.Goals.{After-above}
use Rattle.plp.proofs.inner.chunk_of.Goals as goal

-- what the two calls said is what the definition tests
bound-test : (c : After-above) (b : Bool) → c.above.result ≡ b → let a = c.args in ltb plp_bound (a.w.sum + a.n) ≡ b
bound-test c b h =
    let a = c.args in
    ap (λ (m : ℕ). ltb m (a.w.sum + a.n)) (sym c.bound.ensures) ∙ (sym c.above.ensures ∙ h)

pub returns-then-above : goal.returns-then-above
returns-then-above c =
    let a = c.args in
    sym (chunk-long a.s.now (walk_told a.w) a.n (bound-test (goal.at.returns-then-above c).After-above _ c.if-above.true))

pub returns-then-above_total : goal.returns-then-above_total
returns-then-above_total c =
    let a = c.args in
    let b = bound-test (goal.at.returns-then-above_total c).After-above _ c.if-above.false in
    sym (chunk-above a.s.now (walk_told a.w) a.n b (sym c.above_total.ensures ∙ c.if-above_total.true))

pub returns-then-s-w : goal.returns-then-s-w
returns-then-s-w c =
    let a = c.args in
    let b = bound-test (goal.at.returns-then-s-w c).After-above _ c.if-above.false in
    let t = sym c.above_total.ensures ∙ c.if-above_total.false in
    sym (chunk-missing a.s.now (walk_told a.w) a.n b t (omega arith))

pub overflow_add-result-3 : goal.overflow_add-result-3
overflow_add-result-3 c =
    let a = c.args in
    omega (arith, bound-said, ltb-false plp_bound (a.w.sum + a.n) (bound-test (goal.at.overflow_add-result-3 c).After-above _ c.if-above.false))

pub returns : goal.returns
returns c =
    let a = c.args in
    let b = bound-test (goal.at.returns c).After-above _ c.if-above.false in
    let t = sym c.above_total.ensures ∙ c.if-above_total.false in
    sym (chunk-taken a.s.now (walk_told a.w) a.n b t (omega (arith, c.if-s-w.false)))
