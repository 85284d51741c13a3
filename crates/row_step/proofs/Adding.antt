-- One size more, of an answered count: what the definition adds to the sum, or the refusal. Why it holds: an answer's count is that of its bytes.
-- Assumes nothing.
use mathlib.Core.Path.{◌≡◌, refl, ap}
use mathlib.Core.List.{List}
use Prim.Native.Nat.{ℕ, ◌+◌}
use Rattle.lists.proofs.Split.{clash}
use Rattle.format.specs.Answer.{Answer, Refusal, gives, refuses, wrote}
use Rattle.wire.proofs.Writing.{count_is, not_refused}
use Rattle.row_step.specs.Steps.{size_on}

pub added : (a : Answer (List ℕ)) (at n : ℕ) → gives n ≡ wrote a → gives (at + n) ≡ size_on (gives at) a
added (gives b) at n h = ap (λ (k : ℕ). gives (at + k)) (count_is (gives b) n b h refl)
added (refuses e) at n h = not_refused e n h

pub added_refused : (a : Answer (List ℕ)) (at : ℕ) (e : Refusal) → refuses e ≡ wrote a → refuses e ≡ size_on (gives at) a
unfolding wrote
added_refused (gives b) at e h = clash cc
added_refused (refuses d) at e h = h
