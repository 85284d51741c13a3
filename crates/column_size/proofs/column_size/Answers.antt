-- `column_size::column_size` meets its contract: rule 6 with the names, then 7, then the size. Assumes nothing.
use mathlib.Core.Bool.{true}
use mathlib.Core.Path.{◌≡◌, sym, ap, ◌∙◌}
use Rattle.format.specs.Answer.{wrote}
use Rattle.format.specs.Descriptor.{keeps_rule, names_fit}
use Rattle.column_type.specs.Told.{column_told, schema_told}
use Rattle.format.proofs.DescriptorForm.{writes}
use Rattle.column_type.proofs.WriteLaws.{breaks_rule, breaks_names, not_described}
use Rattle.column_size.proofs.column_size.Goals.{Else-not-keeps_rule, Else-not-names_fit}
use Rattle.column_size.proofs.column_size.Goals as goal

-- the tests that said yes
rules : (c : Else-not-keeps_rule) → keeps_rule (column_told c.args.names.now c.args.c) ≡ true
rules c = sym (c.keeps_rule.ensures c.args.names.now) ∙ c.if-not-keeps_rule.false

fits : (c : Else-not-names_fit) → names_fit (schema_told c.args.names.now c.args.c.schema) ≡ true
fits c = sym c.names_fit.ensures ∙ c.if-not-names_fit.false

pub size_of-requires : goal.size_of-requires
size_of-requires c = fits (goal.at.size_of-requires c).Else-not-names_fit

pub returns-then-not-keeps_rule : goal.returns-then-not-keeps_rule
unfolding wrote
returns-then-not-keeps_rule c =
    let k = column_told c.args.names.now c.args.c in
    sym (ap wrote (breaks_rule k (sym (c.keeps_rule.ensures c.args.names.now) ∙ c.if-not-keeps_rule.true)))

pub returns-then-not-names_fit : goal.returns-then-not-names_fit
unfolding wrote
returns-then-not-names_fit c =
    let k = column_told c.args.names.now c.args.c in
    let h = rules (goal.at.returns-then-not-names_fit c).Else-not-keeps_rule in
    sym (ap wrote (breaks_names k h (sym c.names_fit.ensures ∙ c.if-not-names_fit.true)))

pub returns-then-not-is_described : goal.returns-then-not-is_described
unfolding wrote
returns-then-not-is_described c =
    let k = column_told c.args.names.now c.args.c in
    let at = goal.at.returns-then-not-is_described c in
    let h = rules at.Else-not-keeps_rule in
    sym (ap wrote (not_described k h (fits at.Else-not-names_fit) (sym c.is_described.ensures ∙ c.if-not-is_described.true)))

pub returns : goal.returns
unfolding wrote
returns c =
    let k = column_told c.args.names.now c.args.c in
    let at = goal.at.returns c in
    let h = rules at.Else-not-keeps_rule in
    rw c.size_of.ensures
    (sym (ap wrote (writes k h (fits at.Else-not-names_fit) (sym c.is_described.ensures ∙ c.if-not-is_described.false))))
