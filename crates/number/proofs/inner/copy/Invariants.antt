use mathlib.Core.Path.{◌≡◌}
use Prim.Native.Nat.{◌≤◌}
use lib.ListN.{length}
use Rattle.lists.specs.Put.{front}
use Rattle.number.proofs.inner.copy.Given as goal

abbrev pub invariant-loop-i : goal.invariant-loop-i
invariant-loop-i l = (l.i ≤ length l.src) × (length l.dst ≡ length l.initial.dst) × (l.dst ≡ front l.src l.i l.initial.dst)
