-- What this crate's declared types tell, in the words of `format`.
use Rattle.std.specs.Prelude.{Err, None, Ok, Option, Result, Some}
use Rattle.std.specs.Prelude.{ℕ}
use Rattle.format.specs.Answer.{Read, took, stops}
use Rattle.format.specs.Plp as P
use Rattle.wire.specs.Told.{refusal_told}
use Rattle.plp_rule.specs.declared.Eight.{Eight}
use Rattle.plp_rule.specs.declared.Eight.TheVariants as E
use Rattle.wire.specs.declared.Refusal.{Refusal}

abbrev pub total_told : Option ℕ → Option ℕ
total_told None = None
total_told (Some n) = Some n

abbrev pub eight_told : Result Eight Refusal → Read P.PlpHead
eight_told (Ok E.Null) = took P.is_null 0
eight_told (Ok (E.Chunked t)) = took (P.chunked (total_told t)) 0
eight_told (Err e) = stops (refusal_told e)
