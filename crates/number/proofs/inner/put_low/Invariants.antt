use mathlib.Core.Path.{◌≡◌}
use Prim.Native.Nat.{◌+◌, ◌-◌, ◌≤◌}
use lib.ListN.{length}
use lib.Seq.{sets}
use Rattle.format.specs.Number.{low_bytes}
use Rattle.number.proofs.inner.put_low.Given as goal

abbrev pub invariant-loop-i : goal.invariant-loop-i
invariant-loop-i l = (l.i ≤ l.w) × (length l.out ≡ length l.initial.out) × (sets l.out (l.at + l.i) (low_bytes (l.w - l.i) l.m) ≡ sets l.initial.out l.at
    (low_bytes l.w l.n))
