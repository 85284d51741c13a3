-- No two outcomes satisfy the contract of `normal_row`.
-- Why it holds: `normal_told` has an inverse, and the room is a function of what was passed.
-- Assumes nothing.
use Rattle.std.specs.Prelude.{Err, Ok, Result}
use mathlib.Core.Path.{◌≡◌, refl, ap}
use mathlib.Core.List.{List, []}
use Prim.Native.Nat.{ℕ}
use lib.ListN.{length}
use Rattle.format.specs.Answer.{Read, took, stops, map_read, read_at, fitted_read, room_after_read}
use Rattle.format.specs.Normal.{normal}
use Rattle.format.proofs.Decided.{Undoes, decided, one_room}
use Rattle.wire.proofs.Decided.{refusal_back, refusal_undoes}
use Rattle.column_type.specs.declared.Column.{Column}
use Rattle.columns.specs.Told.{columns_told}
use Rattle.normal_step.specs.Told.{normal_told}
use Rattle.cursor.specs.declared.Cursor.{Cursor}
use Rattle.wire.specs.declared.Refusal.{Refusal}

abbrev pub normal_back : Read ℕ → Result (ℕ × Cursor) Refusal
normal_back (took n next) = Ok (n, (record { at = next }))
normal_back (stops e) = Err (refusal_back e)

pub normal_undoes : Undoes normal_told normal_back
normal_undoes (Ok (n, c)) = refl
normal_undoes (Err e) = ap Err (refusal_undoes e)

-- the normal form of the row at a place, in a room of so many bytes, the columns' names parts of a buffer
abbrev pub normal_of : List ℕ → List Column → List ℕ → ℕ → ℕ → Read (List ℕ)
normal_of names cols s at size = fitted_read (λ (bytes : List ℕ). bytes) (read_at (normal (columns_told names cols)) s at) size

-- `row_normal::normal_row`: what it promises of its answer and of the room, and that this is one answer and one room
pub record NormalisesRow (cols : List Column) (s : List ℕ) (at : ℕ) (out : List ℕ) (r : Result (ℕ × Cursor) Refusal) (after : List ℕ) : Type 0 where
  pub answer : (names : List ℕ) → normal_told r ≡ map_read length (normal_of names cols s at (length out))
  pub room : (names : List ℕ) → after ≡ room_after_read (λ (bytes : List ℕ). bytes) (normal_of names cols s at (length out)) out

module _ (cols : List Column) (s : List ℕ) (at : ℕ) (out : List ℕ) (x y : Result (ℕ × Cursor) Refusal) (a b : List ℕ) where
  pub normal_row_decided : NormalisesRow cols s at out x a → NormalisesRow cols s at out y b → (x ≡ y) × (a ≡ b)
  normal_row_decided p q = (decided normal_told normal_back normal_undoes x y _ (p.answer []) (q.answer []), one_room a b _ (p.room []) (q.room []))
