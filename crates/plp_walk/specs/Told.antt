-- What this crate's declared types tell, in the words of `format`.
use Rattle.std.specs.Prelude.{Err, Ok, Result}
use Rattle.std.specs.Prelude.{ℕ, List}
use Rattle.format.specs.Answer.{Answer, gives, refuses}
use Rattle.format.specs.Plp as P
use Rattle.wire.specs.Told.{refusal_told}
use Rattle.plp.specs.Told.{walk_told}
use Rattle.plp_walk.specs.declared.Standing.{Standing}
use Rattle.plp_walk.specs.declared.WalkObject.{WalkObject}
use Rattle.wire.specs.declared.Refusal.{Refusal}

abbrev pub said_told : Result ℕ Refusal → Answer ℕ
said_told (Ok k) = gives k
said_told (Err e) = refuses (refusal_told e)

-- where a walk stands, over an input; and the object, which holds both
abbrev pub standing_told : List ℕ → Standing → P.WalkObject
standing_told s t = record { input = s; walk = walk_told t.walk; said = said_told t.said }

abbrev pub object_told : WalkObject → P.WalkObject
object_told o = standing_told o.input.now o.standing
