-- `column_rule::name_fits` meets its contract: the span leaves the buffer, or its count is judged. Assumes nothing.
use mathlib.Core.Path.{sym, ap, ◌∙◌}
use lib.Dec.{ltb}
use native.Mathlib.Omega.{arith}
use borrow.Author.Tests.{leb-true, leb-false}
use Rattle.column_type.proofs.RuleLaws.{name_leaves, name-lies}
use Rattle.column_rule.proofs.name_fits.Goals.{then-n-names, else-n-names}
use Rattle.column_rule.proofs.name_fits.Goals as goal

pub returns-then-n-names-2 : goal.returns-then-n-names-2
returns-then-n-names-2 c =
    λ w h.
    ap (ltb c.args.n.units) h
    ∙ name-lies c.args.names.now c.args.n w
    (elim c.if-n-names.branch [
      | then-n-names v ↦ omega (arith, leb-true _ _ (sym v.value-is ∙ c.if-n-names-2.true))
      | else-n-names v ↦ omega (arith, leb-true _ _ (sym v.value-is ∙ c.if-n-names-2.true))
    ])

pub returns-else-n-names-2 : goal.returns-else-n-names-2
returns-else-n-names-2 c =
    λ w h.
    c.if-n-names-2.false
    ∙ name_leaves c.args.names.now c.args.n w
    (elim c.if-n-names.branch [
      | then-n-names v ↦ omega (arith, leb-false _ _ (sym v.value-is ∙ c.if-n-names-2.false))
      | else-n-names v ↦ omega arith
    ])
