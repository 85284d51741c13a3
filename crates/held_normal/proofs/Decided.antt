-- No two outcomes satisfy the contract of `normal_held_row`.
-- Why it holds: `normal_told` has an inverse, and the room is a function of what was passed.
-- Assumes nothing.
use Rattle.std.specs.Prelude.{Result}
use mathlib.Core.Path.{◌≡◌}
use mathlib.Core.List.{List, []}
use Prim.Native.Nat.{ℕ}
use lib.ListN.{length}
use Rattle.format.specs.Answer.{Read, map_read, read_at, fitted_read, room_after_read}
use Rattle.format.specs.Normal.{normal}
use Rattle.format.proofs.Decided.{decided, one_room}
use Rattle.column_type.specs.declared.Column.{Column}
use Rattle.normal_step.specs.Told.{normal_told}
use Rattle.row_normal.proofs.Decided.{normal_back, normal_undoes}
use Rattle.held_read.specs.Held.{first_columns, counted_read}
use Rattle.cursor.specs.declared.Cursor.{Cursor}
use Rattle.wire.specs.declared.Refusal.{Refusal}

module _ (cols : List Column) (count : ℕ) (s : List ℕ) (at : ℕ) (out : List ℕ) where
  -- the normal form of the row at the place, in the room, the columns' names parts of a buffer
  abbrev pub normal_held : List ℕ → Read (List ℕ)
  normal_held b = fitted_read (λ (bytes : List ℕ). bytes) (read_at (counted_read count (normal (first_columns b cols count))) s at) (length out)

  -- `held_normal::normal_held_row`: what it promises of its answer and of the room, and that this is one answer and one room
  pub record NormalisesHeld (r : Result (ℕ × Cursor) Refusal) (after : List ℕ) : Type 0 where
    pub answer : (b : List ℕ) → normal_told r ≡ map_read length (normal_held b)
    pub room : (b : List ℕ) → after ≡ room_after_read (λ (bytes : List ℕ). bytes) (normal_held b) out

  pub normal_held_row_decided : (x y : Result (ℕ × Cursor) Refusal) (a b : List ℕ) → NormalisesHeld x a → NormalisesHeld y b → (x ≡ y) × (a ≡ b)
  normal_held_row_decided x y a b p q = (
    decided normal_told normal_back normal_undoes x y _ (p.answer []) (q.answer []),
    one_room a b _ (p.room []) (q.room []),
  )
