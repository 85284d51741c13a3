-- `content_size::content::framed_span` meets its contract: the part that the span names, or refusal 1. Assumes nothing.
use lib.ListN.{length}
use Prim.Native.Nat.{◌+◌, ◌-◌, ◌≤◌}
use mathlib.Core.Path.{◌≡◌, sym, ◌∙◌}
use native.Mathlib.Omega.{arith}
use borrow.Author.Tests.{leb-true, leb-false}
use Rattle.format.specs.Answer.{wrote}
use Rattle.value_kind.proofs.ContentLaws.{span-inside, span-outside}
use Rattle.content_size.proofs.content.framed_span.Goals.{Then-inside}
use Rattle.content_size.proofs.content.framed_span.Goals as goal

-- the span lies in the buffer
lies : (c : Then-inside) → let a = c.args in a.p.start + a.p.count ≤ length a.buffer.now
lies c = leb-true _ _ (sym c.inside.ensures ∙ c.if-inside.true)

pub overflow_add-start : goal.overflow_add-start
overflow_add-start c = record { fits = omega (arith, lies c, c.well_formed) }

pub slice_bounds-framed-end : goal.slice_bounds-framed-end
slice_bounds-framed-end c = omega (arith, lies c)

pub returns-then-inside : goal.returns-then-inside
returns-then-inside c =
    let a = c.args in
    let n : a.p.start + a.p.count - a.p.start ≡ a.p.count = omega arith in
    λ h l. rw (span-inside a.buffer.now a.p.start a.p.count (lies (goal.at.returns-then-inside c).Then-inside)) (rw n at (c.framed.ensures h l))

pub returns : goal.returns
unfolding wrote
returns c =
    let a = c.args in
    λ h l. rw (span-outside a.buffer.now a.p.start a.p.count (leb-false _ _ (sym c.inside.ensures ∙ c.if-inside.false)))
