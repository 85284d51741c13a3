-- What this crate's declared types tell, in the words of `format`.
use Rattle.std.specs.Prelude.{ℕ, List, Result, Ok, Err}
use Rattle.format.specs.Answer.{Read, took, stops}
use Rattle.wire.specs.Told.{refusal_told}
use Rattle.wire.specs.declared.Refusal.{Refusal}
use Rattle.plp.specs.Told.{walk_told}
use Rattle.plp.specs.declared.Walk.{Walk}
use Rattle.board_walk.specs.Plain.{walk_numbers}

-- a walk that was opened, as its six numbers: the next place is its own
abbrev pub opened_told : Result Walk Refusal → Read (List ℕ)
opened_told (Ok w) = took (walk_numbers (walk_told w)) w.at
opened_told (Err e) = stops (refusal_told e)
