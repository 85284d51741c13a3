use mathlib.Core.Path.{◌≡◌}
use Prim.Native.Nat.{◌+◌, ◌-◌, ◌≤◌, ◌<◌, ◌^◌}
use lib.ListN.{take, drop}
use Rattle.format.specs.Number.{low_nat}
use Rattle.number.proofs.inner.low_at.Given as goal

abbrev pub invariant-loop-i : goal.invariant-loop-i
invariant-loop-i l = (l.i ≤ l.w) × (l.n ≡ low_nat (take (l.w - l.i) (drop (l.at + l.i) l.s))) × (l.n < 256 ^ (l.w - l.i))
