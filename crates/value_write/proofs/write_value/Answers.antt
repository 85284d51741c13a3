-- `value_write::write_value` meets its contract: rule 6, then the value under the column's family. Assumes nothing.
use mathlib.Core.Path.{◌≡◌, sym, ◌∙◌}
use mathlib.Core.Bool.{false}
use native.Mathlib.Omega.{arith}
use Rattle.format.specs.Answer.{refuses, rule, wrote}
use Rattle.format.specs.Descriptor.{Column, keeps_rule}
use Rattle.format.specs.Value.{Given, write_value}
use Rattle.wire.proofs.Writing.{refused_before}
use Rattle.column_type.specs.Told.{column_told}
use Rattle.value_kind.specs.Told.{value_told}
use Rattle.value_kind.proofs.ColumnLaws.{length_fits_lem, rule-kept, rule-broken}
use Rattle.value_write.proofs.write_value.Goals as goal

refused : (c : Column) (g : Given) → keeps_rule c ≡ false → refuses rule ≡ wrote (write_value c g)
unfolding wrote
refused c g h = rw (rule-broken c g h)

pub overflow_cast-c : goal.overflow_cast-c
overflow_cast-c c =
    let a = c.args in
    let kept = sym (c.keeps_rule.ensures a.buffer.now) ∙ c.if-keeps_rule.true in
    record { fits = omega (arith, length_fits_lem (column_told a.buffer.now a.c) kept) }

pub returns-then-keeps_rule : goal.returns-then-keeps_rule
returns-then-keeps_rule c =
    let a = c.args in
    let k = sym (c.keeps_rule.ensures a.buffer.now) ∙ c.if-keeps_rule.true in
    rw (rule-kept (column_told a.buffer.now a.c) (value_told a.buffer.now a.v) k, ← c.from.ensures)
    record {
      answer = c.write_in.ensures.answer;
      room = c.write_in.ensures.room;
    }

pub returns : goal.returns
returns c =
    let a = c.args in
    let col = column_told a.buffer.now a.c in
    let g = value_told a.buffer.now a.v in
    let all = refused_before (write_value col g) a.out.now rule (refused col g (sym (c.keeps_rule.ensures a.buffer.now) ∙ c.if-keeps_rule.false)) in record {
      answer = all.0;
      room = all.1;
    }
