-- `column_rule::keeps_rule` meets its contract: the four tests of the definition. Assumes nothing.
use mathlib.Core.Path.{sym, ◌∙◌}
use Rattle.format.specs.Descriptor.{keeps_rule}
use Rattle.column_rule.proofs.keeps_rule.Goals.{then-length_fits, else-length_fits, then-digits_fit, else-digits_fit}
use Rattle.column_rule.proofs.keeps_rule.Goals as goal

pub returns-then-collation_fits : goal.returns-then-collation_fits
unfolding keeps_rule
returns-then-collation_fits c =
    λ b.
    elim c.if-digits_fit.branch [
      | then-digits_fit v ↦
          elim c.if-length_fits.branch [
            | then-length_fits w ↦
                rw (
                  sym c.length_fits.ensures ∙ w.if-length_fits.true,
                  sym w.digits_fit.ensures ∙ (sym w.value-is ∙ v.if-digits_fit.true),
                  sym v.collation_fits.ensures ∙ (sym v.value-is ∙ c.if-collation_fits.true),
                )
                (c.schema_fits.ensures b)
            | else-length_fits w ↦ cc
          ]
      | else-digits_fit v ↦ cc
    ]

pub returns-else-collation_fits : goal.returns-else-collation_fits
unfolding keeps_rule
returns-else-collation_fits c =
    λ b.
    elim c.if-digits_fit.branch [
      | then-digits_fit v ↦
          elim c.if-length_fits.branch [
            | then-length_fits w ↦
                rw (
                  sym c.length_fits.ensures ∙ w.if-length_fits.true,
                  sym w.digits_fit.ensures ∙ (sym w.value-is ∙ v.if-digits_fit.true),
                  sym v.collation_fits.ensures ∙ (sym v.value-is ∙ c.if-collation_fits.false),
                )
                c.if-collation_fits.false
            | else-length_fits w ↦ cc
          ]
      | else-digits_fit v ↦
          elim c.if-length_fits.branch [
            | then-length_fits w ↦
                rw (
                  sym c.length_fits.ensures ∙ w.if-length_fits.true,
                  sym w.digits_fit.ensures ∙ (sym w.value-is ∙ v.if-digits_fit.false),
                )
                c.if-collation_fits.false
            | else-length_fits w ↦
                rw (sym c.length_fits.ensures ∙ w.if-length_fits.false) c.if-collation_fits.false
          ]
    ]
