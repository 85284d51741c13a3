-- `column_form::high_form` meets its contract: each arm says which number it is, and so which type. Assumes nothing.
use mathlib.Core.Path.{refl, ap, ◌∙◌}
use Rattle.format.specs.Descriptor.{UShortLen, u_short_len, type_of}
use Rattle.format.proofs.DescriptorForm.{type_again}
use Rattle.column_form.proofs.high_form.Goals as goal

pub returns-in-165 : goal.returns-in-165
returns-in-165 c = (UShortLen.big_var_bin, ap type_of c.in-165.is ∙ type_again (u_short_len UShortLen.big_var_bin), refl)

pub returns-in-173 : goal.returns-in-173
returns-in-173 c = (UShortLen.big_binary, ap type_of c.in-173.is ∙ type_again (u_short_len UShortLen.big_binary), refl)

pub returns-in-167 : goal.returns-in-167
returns-in-167 c = (UShortLen.big_var_char, ap type_of c.in-167.is ∙ type_again (u_short_len UShortLen.big_var_char), refl)

pub returns-in-175 : goal.returns-in-175
returns-in-175 c = (UShortLen.big_char, ap type_of c.in-175.is ∙ type_again (u_short_len UShortLen.big_char), refl)

pub returns-in-231 : goal.returns-in-231
returns-in-231 c = (UShortLen.n_varchar, ap type_of c.in-231.is ∙ type_again (u_short_len UShortLen.n_varchar), refl)

pub returns-in-239 : goal.returns-in-239
returns-in-239 c = (UShortLen.n_char, ap type_of c.in-239.is ∙ type_again (u_short_len UShortLen.n_char), refl)

pub returns-in_default : goal.returns-in_default
returns-in_default c = tt
