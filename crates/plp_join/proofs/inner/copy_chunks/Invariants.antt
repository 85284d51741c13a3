use mathlib.Core.Path.{◌≡◌}
use Prim.Native.Nat.{◌-◌, ◌≤◌}
use lib.ListN.{length, drop}
use Rattle.lists.specs.Put.{front}
use Rattle.plp_join.specs.Told.{content_of}
use Rattle.plp_join.proofs.Copying.{Going}
use Rattle.plp_join.proofs.inner.copy_chunks.Given as goal

abbrev pub invariant-loop-text : goal.invariant-loop-text
invariant-loop-text l =
    let j = content_of l.text l.rest in
    (l.o ≤ length j) × (length j ≤ length l.initial.out) × (length l.out ≡ length l.initial.out) × (l.out ≡ front j l.o l.initial.out) × Going l.rest l.at
    (drop l.o j)

abbrev pub decreases-loop-text : goal.decreases-loop-text
decreases-loop-text l = length l.rest - l.at
