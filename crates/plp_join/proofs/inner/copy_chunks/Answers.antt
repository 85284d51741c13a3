-- `plp_join::inner::copy_chunks` meets its contract. The invariant: the first o bytes of the content stand at the front of the room, and what is left of
-- it is what a walk from the place joins, one that comes to its end. Assumes nothing.
use mathlib.Core.Path.{◌≡◌, refl, ◌∙◌}
use Prim.Native.Nat.{◌+◌, ◌-◌}
use native.Mathlib.Omega.{arith}
use Rattle.lists.proofs.Front.{front_none, front-end, grown}
use Rattle.plp_join.specs.Told.{content_of}
use Rattle.plp_join.proofs.Copying.{Copied, head_there, all_joined, copied, starts}
use Rattle.plp_join.proofs.inner.copy_chunks.Goals.{Else-n-eq0}
use Rattle.plp_join.proofs.inner.copy_chunks.Goals as goal

pub loop-text-init : goal.loop-text-init
loop-text-init c =
    let a = c.args in
    (omega arith, c.requires.1, refl, front_none _ _, starts a.text a.rest.now c.requires.0)

pub low_at-n-requires : goal.low_at-n-requires
low_at-n-requires c =
    let a = c.args in
    (omega arith, head_there a.rest.now (content_of a.text a.rest.now) c.loop-text.o c.loop-text.at _ refl c.loop-text.invariant.0 c.loop-text.invariant.4)

pub shape_of-out-then-n-eq0 : goal.shape_of-out-then-n-eq0
shape_of-out-then-n-eq0 c = c.loop-text.invariant.2

pub returns-then-n-eq0 : goal.returns-then-n-eq0
returns-then-n-eq0 c =
    let a = c.args in
    let j = content_of a.text a.rest.now in
    let d = all_joined a.rest.now j c.loop-text.o c.loop-text.at _ c.low_at-n.ensures.value c.loop-text.invariant.0 c.loop-text.invariant.4 c.if-n-eq0.true in
    c.loop-text.invariant.3 ∙ front-end j c.loop-text.o a.out.now c.loop-text.invariant.0 d

-- the bytes behind a head that is not zero
bytes : (c : Else-n-eq0) →
    let a = c.args in
    Copied a.rest.now (content_of a.text a.rest.now) c.loop-text.o c.loop-text.at c.low_at-n.result c.low_at-n.ensures.value c.loop-text.invariant.0
    c.loop-text.invariant.4
bytes c = copied _ _ _ _ _ c.low_at-n.ensures.value c.loop-text.invariant.0 c.loop-text.invariant.4 c.if-n-eq0.false

pub overflow_add-b : goal.overflow_add-b
overflow_add-b c = omega (arith, (bytes c).there)

pub overflow_add-b-in-loop-text : goal.overflow_add-b-in-loop-text
overflow_add-b-in-loop-text c = omega (arith, (bytes c).there)

pub paste-requires : goal.paste-requires
paste-requires c =
    let t = bytes (goal.at.paste-requires c).Else-n-eq0 in
    (omega (arith, t.there), (omega (arith, t.there), omega (arith, t.room, c.loop-text.invariant.1, c.loop-text.invariant.2)))

pub overflow_add-at : goal.overflow_add-at
overflow_add-at c = omega (arith, (bytes (goal.at.overflow_add-at c).Else-n-eq0).there)

pub overflow_add-o : goal.overflow_add-o
overflow_add-o c = omega (arith, (bytes (goal.at.overflow_add-o c).Else-n-eq0).room, c.loop-text.invariant.1, c.well_formed)

pub loop-text-smaller : goal.loop-text-smaller
loop-text-smaller c = omega (arith, (bytes (goal.at.loop-text-smaller c).Else-n-eq0).there)

pub loop-text-preserved : goal.loop-text-preserved
loop-text-preserved c =
    let a = c.args in
    let n = c.low_at-n.result in
    let t = bytes (goal.at.loop-text-preserved c).Else-n-eq0 in
    let q : c.loop-text.at + 4 + n - (c.loop-text.at + 4) ≡ n = omega arith in
    let new = rw (q, t.are) at c.paste.ensures in
    let g = grown _ _ _ t.bytes t.rest _ _ n t.long c.loop-text.invariant.0 c.loop-text.invariant.1 c.loop-text.invariant.2 c.loop-text.invariant.3 t.joins
    new in
    (g.room, c.loop-text.invariant.1, g.same, g.holds, rw g.left t.on)
