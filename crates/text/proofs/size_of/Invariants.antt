use Prim.Native.Nat.{◌*◌, ◌-◌, ◌≤◌}
use lib.ListN.{length}
use Rattle.text_char.proofs.Turns.{Sizing}
use Rattle.text.proofs.size_of.Given as goal

abbrev pub invariant-loop-at : goal.invariant-loop-at
invariant-loop-at g l = Sizing g.F.TextForm.char g.T.TextForm.spell l.s l.at l.n × (l.n ≤ 2 * l.at)

abbrev pub decreases-loop-at : goal.decreases-loop-at
decreases-loop-at g l = length l.s - l.at
