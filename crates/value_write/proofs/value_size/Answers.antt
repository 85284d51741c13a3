-- `value_write::value_size` meets its contract: rule 6, then the family's size. Assumes nothing.
use mathlib.Core.Path.{sym, ◌∙◌}
use native.Mathlib.Omega.{arith}
use Rattle.format.specs.Answer.{wrote}
use Rattle.column_type.specs.Told.{column_told}
use Rattle.value_kind.specs.Told.{value_told}
use Rattle.value_kind.proofs.ColumnLaws.{length_fits_lem, rule-kept, rule-broken}
use Rattle.value_write.proofs.value_size.Goals as goal

pub overflow_cast-c : goal.overflow_cast-c
overflow_cast-c c =
    let a = c.args in
    let kept = sym (c.keeps_rule.ensures a.buffer.now) ∙ c.if-keeps_rule.true in
    record { fits = omega (arith, length_fits_lem (column_told a.buffer.now a.c) kept) }

pub returns-then-keeps_rule : goal.returns-then-keeps_rule
returns-then-keeps_rule c =
    let a = c.args in
    let k = sym (c.keeps_rule.ensures a.buffer.now) ∙ c.if-keeps_rule.true in
    rw (rule-kept (column_told a.buffer.now a.c) (value_told a.buffer.now a.v) k, ← c.from.ensures) c.in_family.ensures

pub returns : goal.returns
unfolding wrote
returns c =
    let a = c.args in
    rw
    (rule-broken (column_told a.buffer.now a.c) (value_told a.buffer.now a.v)
    (sym (c.keeps_rule.ensures a.buffer.now) ∙ c.if-keeps_rule.false))
