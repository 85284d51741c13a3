-- The loop's invariant is `Copied` of read_step: the room holds the first of the bytes that the row copies out, and what is left of the columns copies the
-- others.
use Rattle.std.proofs.Common.{◌≡◌, ℕ, List}
use Rattle.format.specs.Answer.{took}
use Rattle.format.specs.Value.{Value}
use Rattle.read_step.proofs.Joining.{answer, Copied}
use Rattle.read_step.specs.Told.{place_told}
use Rattle.row_read.proofs.read_row.Given as goal

abbrev pub invariant-loop-c : goal.invariant-loop-c
invariant-loop-c l =
    (b : List ℕ) (vs : List Value) (next : ℕ) → answer l.cols l.s l.fn.cursor.at l.fn.out b ≡ took vs next
    → Copied l.cols l.s l.fn.cursor.at l.fn.out b vs next l.c-index (place_told l.place) l.out
