-- A row that was answered has values that were judged fine. Assumes nothing.
use Rattle.std.specs.Prelude.{None, Option, Some}
use mathlib.Core.Path.{◌≡◌, refl}
use mathlib.Core.List.{List}
use Prim.Native.Nat.{ℕ}
use Rattle.lists.proofs.Split.{clash}
use Rattle.format.specs.Answer.{Refusal, Answer, gives, wrote}
use Rattle.packed_value.specs.Numbers.{unless}

pub judged_fine : (o : Option Refusal) (a : Answer (List ℕ)) (n : ℕ) → gives n ≡ wrote (unless o a) → o ≡ None
unfolding wrote
judged_fine None a n h = refl
judged_fine (Some e) a n h = clash cc
