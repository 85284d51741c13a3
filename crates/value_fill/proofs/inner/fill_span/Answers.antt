-- `value_fill::inner::fill_span` meets its contract: what has a count lies in the buffer. Assumes nothing.
use mathlib.Core.Path.{◌≡◌}
use native.Mathlib.Omega.{arith}
use Prim.Native.Nat.{◌+◌, ◌-◌, ◌≤◌}
use lib.ListN.{length}
use Rattle.value_kind.specs.Told.{content_kind_told}
use Rattle.value_kind.proofs.ContentLaws.{span-inside}
use Rattle.value_kind.proofs.FormLaws.{span-lies}
use Rattle.value_fill.proofs.inner.fill_span.Goals.{Start}
use Rattle.value_fill.proofs.inner.fill_span.Goals as goal

-- the span lies in the buffer
lies : (c : Start) → c.args.p.start + c.args.p.count ≤ length c.args.buffer.now
lies c = span-lies c.args.buffer.now c.args.p.start c.args.p.count _ (content_kind_told c.args.k) c.args.plp c.requires

pub overflow_add-start : goal.overflow_add-start
overflow_add-start c = record { fits = omega (arith, lies (goal.at.overflow_add-start c).Start, c.well_formed) }

pub slice_bounds-fill_form-end : goal.slice_bounds-fill_form-end
slice_bounds-fill_form-end c = omega (arith, lies (goal.at.slice_bounds-fill_form-end c).Start)

pub fill_form-requires : goal.fill_form-requires
fill_form-requires c =
    let n : c.args.p.start + c.args.p.count - c.args.p.start ≡ c.args.p.count = omega arith in
    rw n (rw (span-inside c.args.buffer.now c.args.p.start c.args.p.count (lies (goal.at.fill_form-requires c).Start)) at c.requires)

pub returns : goal.returns
returns c =
    let n : c.args.p.start + c.args.p.count - c.args.p.start ≡ c.args.p.count = omega arith in
    rw (span-inside c.args.buffer.now c.args.p.start c.args.p.count (lies (goal.at.returns c).Start)) (rw n at c.fill_form.ensures)
