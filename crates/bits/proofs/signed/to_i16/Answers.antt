-- `bits::signed::to_i16` meets its contract: the language's signed numbers are those of `format`. Assumes nothing.
use mathlib.Core.Path.{◌∙◌}
use mir.Facts.{to_z-of_z}
use mir.Syntax.{w16}
use Rattle.bits.proofs.Complement.{signed_is}
use Rattle.bits.proofs.signed.to_i16.Goals as goal

pub returns : goal.returns
returns c = to_z-of_z {w = w16} (record { sfits = c.cast_signed.type_inv }) ∙ c.cast_signed.ensures ∙ signed_is w16 c.args.n
