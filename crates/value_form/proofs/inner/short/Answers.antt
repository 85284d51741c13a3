-- `value_form::inner::short` meets its contract: the length and the content as they came. Assumes nothing.
use native.Mathlib.Omega.{arith}
use Prim.Native.Nat.{◌≤◌}
use lib.ListN.{length}
use Rattle.format.proofs.Number.{Bytes}
use Rattle.value_kind.specs.Told.{content_kind_told}
use Rattle.value_form.proofs.Forming.{short_there, short_null_lem, short_same}
use Rattle.value_form.proofs.inner.short.Goals.{After-shared_slice_known-1, Start}
use Rattle.value_form.proofs.inner.short.Goals as goal

-- the two length bytes are there
there : (c : Start) → 2 ≤ length c.args.rest.now
there c = let a = c.args in short_there (content_kind_told a.k) a.declared a.rest.now c.requires.0 c.requires.1

pub low_at-n-requires : goal.low_at-n-requires
low_at-n-requires c = (omega arith, there (goal.at.low_at-n-requires c).Start)

bytes : (c : After-shared_slice_known-1) → Bytes c.args.rest.now
bytes c i = omega (arith, c.type_inv.rest i)

pub returns-then-n : goal.returns-then-n
returns-then-n c =
    let a = c.args in
    short_null_lem (content_kind_told a.k) a.declared a.rest.now c.requires.0 (there (goal.at.returns-then-n c).Start)
    (bytes (goal.at.returns-then-n c).After-shared_slice_known-1) _
    c.low_at-n.ensures.value c.if-n.true

pub returns : goal.returns
returns c =
    let a = c.args in
    short_same (content_kind_told a.k) a.declared a.rest.now c.requires.0 (there (goal.at.returns c).Start)
    (bytes (goal.at.returns c).After-shared_slice_known-1) _ c.low_at-n.ensures.value
    c.if-n.false c.requires.1
