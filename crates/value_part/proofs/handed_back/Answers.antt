-- `value_part::handed_back` meets its contract: the span lies inside, or it leaves the bytes. Assumes nothing.
use mathlib.Core.Path.{sym, ap, ◌∙◌}
use Prim.Native.Nat.{ℕ, ◌+◌, ◌≤◌}
use native.Mathlib.Nat.{add-sub_cancel_left}
use native.Mathlib.Omega.{arith}
use lib.ListN.{length, take, drop}
use borrow.Author.Tests.{leb-true, leb-false}
use Rattle.value_part.proofs.Placing.{handed_inside, handed_outside}
use Rattle.value_part.proofs.handed_back.Goals.{Then-inside}
use Rattle.value_part.proofs.handed_back.Goals as goal

-- the span lies inside
lies : (c : Then-inside) → let a = c.args in a.start + a.count ≤ length a.s.now
lies c = leb-true _ _ (sym c.inside.ensures ∙ c.if-inside.true)

pub overflow_add-result : goal.overflow_add-result
overflow_add-result c = omega (arith, lies c)

pub slice_bounds-result-end : goal.slice_bounds-result-end
slice_bounds-result-end c = omega (arith, lies c)

pub returns-then-inside : goal.returns-then-inside
returns-then-inside c =
    let a = c.args in
    ap (λ (n : ℕ). take n (drop a.start a.s.now)) (add-sub_cancel_left a.start a.count)
    ∙ handed_inside a.s.now a.start a.count (lies (goal.at.returns-then-inside c).Then-inside)

pub returns : goal.returns
returns c =
    let a = c.args in
    handed_outside a.s.now a.start a.count (leb-false _ _ (sym c.inside.ensures ∙ c.if-inside.false))
