use Rattle.std.proofs.Common.{length, ◌≡◌, ℕ}
use Rattle.replay.proofs.run.Given as goal

abbrev pub invariant-loop : goal.invariant-loop
invariant-loop g l = (length l.frame ≡ length l.initial.frame) × (length l.room ≡ length l.initial.room)
