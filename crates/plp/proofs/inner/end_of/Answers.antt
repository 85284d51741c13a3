-- `plp::inner::end_of` meets its contract: the sum against the total, then the odd count, then the end. Assumes nothing.
use mathlib.Core.Path.{sym, ◌∙◌}
use Rattle.plp.specs.Told.{walk_told}
use Rattle.plp.proofs.Heads.{end_unlike, end-odd, end-taken}
use Rattle.plp.proofs.inner.end_of.Goals as goal

pub returns-then-unlike_total : goal.returns-then-unlike_total
returns-then-unlike_total c =
    let a = c.args in
    sym (end_unlike (walk_told a.w) (sym c.unlike_total.ensures ∙ c.if-unlike_total.true))

pub returns-then-is_odd : goal.returns-then-is_odd
returns-then-is_odd c =
    let a = c.args in
    sym (end-odd (walk_told a.w) (sym c.unlike_total.ensures ∙ c.if-unlike_total.false) (sym c.is_odd.ensures ∙ c.if-is_odd.true))

pub returns : goal.returns
returns c =
    let a = c.args in
    sym (end-taken (walk_told a.w) (sym c.unlike_total.ensures ∙ c.if-unlike_total.false) (sym c.is_odd.ensures ∙ c.if-is_odd.false))
