use Rattle.std.proofs.Common.{length, ◌-◌, ◌≤◌, ◌≡◌}
use Rattle.capture.proofs.run.Given as goal

abbrev pub invariant-loop-i : goal.invariant-loop-i
invariant-loop-i g l = (l.i ≤ l.count) × (length l.s ≡ length l.initial.s) × (length l.joined ≡ length l.initial.joined)
    × (length l.room ≡ length l.initial.room)
