-- No two outcomes satisfy the contract of `judge_held_row` or of `read_held_row`.
-- Why it holds: `row_judged_told` and `row_read_told` have inverses, and the room is a function of what was passed.
-- Assumes nothing.
use Rattle.std.specs.Prelude.{Result}
use mathlib.Core.Path.{◌≡◌}
use mathlib.Core.List.{List, []}
use Prim.Native.Nat.{ℕ}
use lib.ListN.{length}
use Rattle.format.specs.Answer.{Read, map_read, read_at, fitted_read, room_after_read}
use Rattle.format.specs.Value.{Value}
use Rattle.format.specs.Row.{read_row, copied_out_row}
use Rattle.format.proofs.Decided.{decided, one_room}
use Rattle.column_type.specs.declared.Column.{Column}
use Rattle.judge_step.specs.Told.{needs_of, row_judged_told}
use Rattle.read_step.specs.Told.{first_place, row_read_told}
use Rattle.row_judge.proofs.Decided.{judged_back, judged_undoes}
use Rattle.row_read.proofs.Decided.{read_back, read_undoes}
use Rattle.held_read.specs.Held.{first_columns, counted_read}
use Rattle.cursor.specs.declared.Cursor.{Cursor}
use Rattle.row_place.specs.declared.RowPlace.{RowPlace}
use Rattle.judge_step.specs.declared.RowNeeds.{RowNeeds}
use Rattle.wire.specs.declared.Refusal.{Refusal}

module _ (cols : List Column) (count : ℕ) (s : List ℕ) (at : ℕ) where
  -- the row at the place, the columns' names parts of a buffer
  abbrev pub read_held : List ℕ → Read (List Value)
  read_held b = read_at (counted_read count (read_row (first_columns b cols count))) s at

  -- `held_read::judge_held_row`: what it promises, and that this is one answer
  pub record JudgesHeld (r : Result RowNeeds Refusal) : Type 0 where
    pub told : (b : List ℕ) → row_judged_told r ≡ map_read (needs_of (first_columns b cols count)) (read_held b)

  pub judge_held_row_decided : (x y : Result RowNeeds Refusal) → JudgesHeld x → JudgesHeld y → x ≡ y
  judge_held_row_decided x y p q = decided row_judged_told judged_back judged_undoes x y _ (p.told []) (q.told [])

  module _ (out : List ℕ) where
    -- the row that is read into the room
    abbrev pub held_out : List ℕ → Read (List Value)
    held_out b = fitted_read (copied_out_row (first_columns b cols count)) (read_held b) (length out)

    -- `held_read::read_held_row`: what it promises of its answer and of the room, and that this is one answer and one room
    pub record ReadsHeld (r : Result (RowPlace × Cursor) Refusal) (after : List ℕ) : Type 0 where
      pub told : (b : List ℕ) → row_read_told r ≡ map_read (λ (vs : List Value). first_place at) (held_out b)
      pub room : (b : List ℕ) → after ≡ room_after_read (copied_out_row (first_columns b cols count)) (held_out b) out

    pub read_held_row_decided : (x y : Result (RowPlace × Cursor) Refusal) (a b : List ℕ) → ReadsHeld x a → ReadsHeld y b → (x ≡ y) × (a ≡ b)
    read_held_row_decided x y a b p q = (
      decided row_read_told read_back read_undoes x y _ (p.told []) (q.told []),
      one_room a b _ (p.room []) (q.room []),
    )
