-- `record_read::read_fields` meets its contract: each form has its reader, and the others are left. Assumes nothing.
use mathlib.Core.Path.{◌≡◌, subst}
use lib.ListN.{get_or}
use Rattle.column_form.specs.Form.{IsForm}
use Rattle.column_form.specs.declared.Form.{Form}
use Rattle.record_read.proofs.read_fields.Goals.{After-form_of}
use Rattle.record_read.proofs.read_fields.Goals as goal

-- the form that an arm has
holds : (c : After-form_of) (f : Form) → c.form_of.result ≡ f → IsForm f (get_or c.args.rest.now 0 0)
holds c f e = subst (λ (x : Form). IsForm x (get_or c.args.rest.now 0 0)) e c.form_of.ensures

pub read_alone-requires : goal.read_alone-requires
read_alone-requires c = (c.if-rest-lt1.false, holds (goal.at.read_alone-requires c).After-form_of _ c.in-Alone.is)

pub read_byte-requires : goal.read_byte-requires
read_byte-requires c = (c.if-rest-lt1.false, holds (goal.at.read_byte-requires c).After-form_of _ c.in-Byte.is)

pub read_digits-requires : goal.read_digits-requires
read_digits-requires c = (c.if-rest-lt1.false, holds (goal.at.read_digits-requires c).After-form_of _ c.in-Digits.is)

pub read_short-requires : goal.read_short-requires
read_short-requires c = (c.if-rest-lt1.false, holds (goal.at.read_short-requires c).After-form_of _ c.in-Short.is)

pub read_text-requires : goal.read_text-requires
read_text-requires c = (c.if-rest-lt1.false, holds (goal.at.read_text-requires c).After-form_of _ c.in-Text.is)
