-- `record_write::write_record` meets its contract: each form has its writer, and the others are left. Assumes nothing.
use mathlib.Core.Path.{◌≡◌, subst}
use lib.ListN.{get_or}
use Rattle.column_form.specs.Form.{IsForm}
use Rattle.column_form.specs.declared.Form.{Form}
use Rattle.record_write.proofs.write_record.Goals.{After-form_of}
use Rattle.record_write.proofs.write_record.Goals as goal

-- the form that an arm has
holds : (c : After-form_of) (f : Form) → c.form_of.result ≡ f → IsForm f (get_or c.args.r.now 0 0)
holds c f e = subst (λ (x : Form). IsForm x (get_or c.args.r.now 0 0)) e c.form_of.ensures

pub write_alone-requires : goal.write_alone-requires
write_alone-requires c = (c.if-r-lt16.false, holds (goal.at.write_alone-requires c).After-form_of _ c.in-Alone.is)

pub write_byte-requires : goal.write_byte-requires
write_byte-requires c = (c.if-r-lt16.false, holds (goal.at.write_byte-requires c).After-form_of _ c.in-Byte.is)

pub write_digits-requires : goal.write_digits-requires
write_digits-requires c = (c.if-r-lt16.false, holds (goal.at.write_digits-requires c).After-form_of _ c.in-Digits.is)

pub write_short-requires : goal.write_short-requires
write_short-requires c = (c.if-r-lt16.false, holds (goal.at.write_short-requires c).After-form_of _ c.in-Short.is)

pub write_text-requires : goal.write_text-requires
write_text-requires c = (c.if-r-lt16.false, holds (goal.at.write_text-requires c).After-form_of _ c.in-Text.is)
