use mathlib.Core.Path.{◌≡◌}
use Prim.Native.Nat.{◌≤◌}
use lib.ListN.{length}
use lib.Seq.{sets}
use Rattle.format.specs.Number.{high_bytes}
use Rattle.number.proofs.inner.put_high.Given as goal

abbrev pub invariant-loop-i : goal.invariant-loop-i
invariant-loop-i l = (l.i ≤ l.w) × (length l.out ≡ length l.initial.out) × (sets l.out l.at (high_bytes l.i l.m) ≡ sets l.initial.out l.at (high_bytes l.w l.n))
