use mathlib.Core.Path.{◌≡◌}
use Prim.Native.Nat.{◌+◌, ◌-◌, ◌≤◌, ◌<◌, ◌^◌}
use lib.ListN.{take, drop}
use Rattle.format.specs.Number.{high_from, high_nat}
use Rattle.number.proofs.inner.high_at.Given as goal

abbrev pub invariant-loop-i : goal.invariant-loop-i
invariant-loop-i l = (l.i ≤ l.w) × (high_from l.n (take (l.w - l.i) (drop (l.at + l.i) l.s)) ≡ high_nat (take l.w (drop l.at l.s))) × (l.n < 256 ^ l.i)
