-- `bits::signed::to_i64` meets its contract: the language's signed numbers are those of `format`. Assumes nothing.
use mathlib.Core.Path.{◌∙◌}
use mir.Facts.{to_z-of_z}
use mir.Syntax.{w64}
use Rattle.bits.proofs.Complement.{signed_is}
use Rattle.bits.proofs.signed.to_i64.Goals as goal

pub returns : goal.returns
returns c = to_z-of_z {w = w64} (record { sfits = c.cast_signed.type_inv }) ∙ c.cast_signed.ensures ∙ signed_is w64 c.args.n
