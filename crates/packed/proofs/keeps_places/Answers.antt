-- `packed::keeps_places` meets its contract: the tests of the definition, one after another. Assumes nothing.
use mathlib.Core.Path.{sym, ◌∙◌}
use Rattle.packed.proofs.Places.{other_flag, not_zero}
use Rattle.packed.proofs.Places.{used_here, used_other}
use Rattle.packed.proofs.keeps_places.Goals as goal

pub returns-then-flags-gt3 : goal.returns-then-flags-gt3
returns-then-flags-gt3 c = other_flag c.args.r.now c.requires c.if-flags-gt3.true

pub returns-then-r-ne0 : goal.returns-then-r-ne0
returns-then-r-ne0 c = not_zero c.args.r.now c.requires c.if-flags-gt3.false c.if-r-ne0.true

pub returns-then-unused_zero : goal.returns-then-unused_zero
returns-then-unused_zero c =
    let used = sym c.unused_zero.ensures ∙ c.if-unused_zero.true in
    let u = rw c.low_at-collation.ensures.value at used in
    c.unused_zero-then-unused_zero.ensures
    ∙ rw c.low_at-index.ensures.value (used_here c.args.r.now c.requires u c.if-flags-gt3.false c.if-r-ne0.false)

pub returns-else-unused_zero : goal.returns-else-unused_zero
returns-else-unused_zero c =
    let used = sym c.unused_zero.ensures ∙ c.if-unused_zero.false in
    c.if-unused_zero.false
    ∙ used_other c.args.r.now c.requires (rw c.low_at-collation.ensures.value at used) c.if-flags-gt3.false c.if-r-ne0.false
