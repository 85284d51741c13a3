-- No two outcomes satisfy the contract of `read_value`: the kind, the places and the next place have an inverse, a scalar is the canonical one that is told,
-- and the room is a function of the input.
-- Assumes nothing.
use Rattle.std.specs.Prelude.{Err, Ok, Result}
use mathlib.Core.Path.{◌≡◌, refl, sym, ap, ◌∙◌}
use mathlib.Core.List.{List, []}
use Prim.Native.Nat.{ℕ}
use Rattle.lists.proofs.Split.{clash}
use Rattle.format.proofs.Decided.{decided, one_room}
use Rattle.wire.specs.declared.Cursor.{Cursor}
use Rattle.wire.specs.Told.{refusal_told}
use Rattle.wire.proofs.Decided.{refusal_back, refusal_undoes}
use Rattle.column_type.specs.declared.Column.{Column}
use Rattle.column_type.specs.Told.{column_told}
use Rattle.value_found.specs.declared.Found.{Found}
use Rattle.value_found.specs.Told.{found_told, value_read_told, CanonicalRead}
use Rattle.value_found.proofs.Decided.{found_one}
use Rattle.value_read.specs.Told.{found_out, room_out}
use Rattle.wire.specs.declared.Refusal.{Refusal}

abbrev cursor_at : ℕ → Cursor
cursor_at n = record { at = n }

pub read_one : (x y : Result (Found × Cursor) Refusal) → CanonicalRead x → CanonicalRead y → value_read_told x ≡ value_read_told y → x ≡ y
read_one (Ok (f, a)) (Ok (g, b)) p q e =
    let s : found_told f ≡ found_told g = cc in
    let n : a.at ≡ b.at = cc in
    ap (λ (h : Found). Ok (h, a)) (found_one f g p q s) ∙ ap (λ (m : ℕ). Ok (g, (cursor_at m))) n
read_one (Ok (f, a)) (Err d) p q e = clash cc
read_one (Err d) (Ok (g, b)) p q e = clash cc
read_one (Err d) (Err h) p q e =
    let s : refusal_told d ≡ refusal_told h = cc in
    ap Err (decided refusal_told refusal_back refusal_undoes d h (refusal_told h) s refl)

-- `value_read::read_value`: what it promises of its answer and of the room, and that this is one answer and one room
pub record ReadsValue (c : Column) (s : List ℕ) (at : ℕ) (out : List ℕ) (r : Result (Found × Cursor) Refusal) (after : List ℕ) : Type 0 where
  pub told : (b : List ℕ) → value_read_told r ≡ found_out (column_told b c) s at out
  pub canonical : CanonicalRead r
  pub room : (b : List ℕ) → after ≡ room_out (column_told b c) s at out

module _ (c : Column) (s : List ℕ) (at : ℕ) (out : List ℕ) (x y : Result (Found × Cursor) Refusal) (a b : List ℕ) where
  pub read_value_decided : ReadsValue c s at out x a → ReadsValue c s at out y b → (x ≡ y) × (a ≡ b)
  read_value_decided p q = (read_one x y p.canonical q.canonical (p.told [] ∙ sym (q.told [])), one_room a b _ (p.room []) (q.room []))
