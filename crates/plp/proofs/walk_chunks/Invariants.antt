use mathlib.Core.Path.{◌≡◌}
use Prim.Native.Nat.{◌-◌}
use Rattle.format.specs.Plp.{walk_from}
use Rattle.plp.specs.Told.{walk_told}
use Rattle.plp.proofs.walk_chunks.Given as goal

-- what the walk comes to from the start is what it comes to from here, with the heads that are left and those that were taken
abbrev pub invariant-loop-taken : goal.invariant-loop-taken
invariant-loop-taken l = walk_from l.allowed l.s (walk_told l.initial.v) 0 ≡ walk_from (l.allowed - l.taken) l.s (walk_told l.v) l.taken
