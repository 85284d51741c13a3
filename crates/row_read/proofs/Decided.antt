-- No two outcomes satisfy the contract of `read_row`.
-- Why it holds: `row_read_told` has an inverse, and the room is a function of what was passed.
-- Assumes nothing.
use Rattle.std.specs.Prelude.{Err, Ok, Result}
use mathlib.Core.Path.{◌≡◌, refl, ap}
use mathlib.Core.List.{List, []}
use Prim.Native.Nat.{ℕ}
use lib.ListN.{length}
use Rattle.format.specs.Answer.{Read, took, stops, map_read, read_at, fitted_read, room_after_read}
use Rattle.format.specs.Value.{Value}
use Rattle.format.specs.Row.{read_row, copied_out_row}
use Rattle.format.proofs.Decided.{Undoes, decided, one_room}
use Rattle.wire.proofs.Decided.{refusal_back, refusal_undoes}
use Rattle.column_type.specs.declared.Column.{Column}
use Rattle.columns.specs.Told.{columns_told}
use Rattle.read_step.specs.Told.{Place, first_place, row_read_told}
use Rattle.cursor.specs.declared.Cursor.{Cursor}
use Rattle.row_place.specs.declared.RowPlace.{RowPlace}
use Rattle.wire.specs.declared.Refusal.{Refusal}

abbrev pub read_back : Read Place → Result (RowPlace × Cursor) Refusal
read_back (took p next) = Ok ((record { cursor = record { at = p.at }; copied = p.copied }), (record { at = next }))
read_back (stops e) = Err (refusal_back e)

pub read_undoes : Undoes row_read_told read_back
read_undoes (Ok (p, next)) = refl
read_undoes (Err e) = ap Err (refusal_undoes e)

module _ (cols : List Column) (s : List ℕ) (at : ℕ) (out : List ℕ) where
  -- the row that is read into the room, the columns' names parts of a buffer
  abbrev pub read_out : List ℕ → Read (List Value)
  read_out b = fitted_read (copied_out_row (columns_told b cols)) (read_at (read_row (columns_told b cols)) s at) (length out)

  -- what the call promises of its answer and of the room
  pub record ReadsRow (r : Result (RowPlace × Cursor) Refusal) (after : List ℕ) : Type 0 where
    pub told : (b : List ℕ) → row_read_told r ≡ map_read (λ (vs : List Value). first_place at) (read_out b)
    pub room : (b : List ℕ) → after ≡ room_after_read (copied_out_row (columns_told b cols)) (read_out b) out

  -- and that this is one answer and one room
  pub read_row_decided : (x y : Result (RowPlace × Cursor) Refusal) (a b : List ℕ) → ReadsRow x a → ReadsRow y b → (x ≡ y) × (a ≡ b)
  read_row_decided x y a b p q = (
    decided row_read_told read_back read_undoes x y _ (p.told []) (q.told []),
    one_room a b _ (p.room []) (q.room []),
  )
