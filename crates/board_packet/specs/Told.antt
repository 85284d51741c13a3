-- What this crate's declared types tell, in the words of `format`.
use Rattle.std.specs.Prelude.{Result, Ok, Err}
use Rattle.format.specs.Answer.{Answer, gives, refuses}
use Rattle.format.specs.Prelogin as P
use Rattle.wire.specs.Told.{refusal_told}
use Rattle.wire.specs.declared.Refusal.{Refusal}
use Rattle.prelogin.specs.Told.{prelogin_told}
use Rattle.prelogin.specs.declared.Prelogin.{Prelogin}

abbrev pub message_told : Result Prelogin Refusal → Answer P.Prelogin
message_told (Ok p) = gives (prelogin_told p)
message_told (Err e) = refuses (refusal_told e)
