-- What this crate's declared types tell, in the words of `format`.
use Rattle.std.specs.Prelude.{Err, Ok, Result, None, Option, Some}
use Rattle.std.specs.Prelude.{ℕ}
use Rattle.format.specs.Answer.{Answer, gives, refuses, Read, took, stops}
use Rattle.format.specs.Plp as P
use Rattle.wire.specs.Told.{refusal_told}
pub use Rattle.plp_rule.specs.Told.{total_told}
use Rattle.plp.specs.declared.Walk.{Walk}
use Rattle.plp.specs.declared.Opened.{Opened}
use Rattle.plp.specs.declared.Opened.TheVariants as O
use Rattle.wire.specs.declared.Refusal.{Refusal}

abbrev pub walk_told : Walk → P.Walk
walk_told w = record { at = w.at; sum = w.sum; total = total_told w.total; text = w.text; ended = w.ended }

-- the next place of a walk that was opened is its own
abbrev pub opened_told : Result Opened Refusal → Read (Option P.Walk)
opened_told (Ok (O.Walk w)) = took (Some (walk_told w)) w.at
opened_told (Ok (O.Null c)) = took None c.at
opened_told (Err e) = stops (refusal_told e)

abbrev pub headed_told : Result Walk Refusal → Answer P.Walk
headed_told (Ok w) = gives (walk_told w)
headed_told (Err e) = refuses (refusal_told e)

abbrev pub walked_told : Result (Walk × ℕ) Refusal → Answer P.Walked
walked_told (Ok (w, k)) = gives (record { walk = walk_told w; taken = k })
walked_told (Err e) = refuses (refusal_told e)
