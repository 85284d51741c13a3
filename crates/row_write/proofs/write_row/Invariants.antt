-- The loop's invariant is `Filled` of row_step: the room holds the row's first bytes, and what is left writes the others.
use Rattle.std.proofs.Common.{◌≡◌, ℕ, List, length}
use Rattle.format.specs.Answer.{gives}
use Rattle.row_step.proofs.Filling.{answer, Filled}
use Rattle.row_write.proofs.write_row.Given as goal

abbrev pub invariant-loop-c : goal.invariant-loop-c
invariant-loop-c l =
    (j : List ℕ) (h : answer l.buffer l.cols l.values l.initial.out ≡ gives j) → Filled l.buffer l.cols l.values l.initial.out j h (length l.yielded) l.at l.out
