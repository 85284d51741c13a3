-- `value_size::size::fixed` meets its contract: a derived `==` on kinds is the definition's. Assumes nothing.
use mathlib.Core.Path.{sym, ◌∙◌}
use Rattle.value_kind.proofs.ScalarLaws.{same_kinds}
use Rattle.value_size.proofs.size.fixed.Goals as goal

pub returns-then-eq : goal.returns-then-eq
returns-then-eq c = rw (← same_kinds c.args.k c.args.wanted, sym c.eq.ensures ∙ c.if-eq.true, c.bytes.ensures)

pub returns : goal.returns
returns c = rw (← same_kinds c.args.k c.args.wanted, sym c.eq.ensures ∙ c.if-eq.false)
