-- An answer of `normal_row` other than refusal 1 does not change when more bytes follow the input, and neither does the room.
-- Why it holds: the normal form's definition is steady (`stream_normal` of format), at a place and with a room too.
-- Assumes nothing.
use Rattle.std.specs.Prelude.{Result}
use mathlib.Core.Path.{◌≡◌, ap, ◌∙◌}
use mathlib.Core.List.{List, ◌++◌}
use Prim.Native.Nat.{ℕ}
use lib.ListN.{length}
use Rattle.format.specs.Answer.{Read, missing, stops, map_read, read_at, room_after_read}
use Rattle.format.specs.Normal.{normal}
use Rattle.format.proofs.More.{steady_at, steady_fitted}
use Rattle.format.proofs.StreamNormal.{stream_normal}
use Rattle.column_type.specs.declared.Column.{Column}
use Rattle.columns.specs.Told.{columns_told}
use Rattle.normal_step.specs.Told.{normal_told}
use Rattle.row_normal.proofs.Decided.{normal_of, NormalisesRow, normal_row_decided}
use Rattle.cursor.specs.declared.Cursor.{Cursor}
use Rattle.wire.specs.declared.Refusal.{Refusal}

module _ (cols : List Column) (s more : List ℕ) (at : ℕ) (out : List ℕ) (x y : Result (ℕ × Cursor) Refusal) (a b : List ℕ) where
  pub more_bytes : NormalisesRow cols s at out x a → NormalisesRow cols (s ++ more) at out y b → (normal_told x ≡ stops missing → ⊥) → (x ≡ y) × (a ≡ b)
  more_bytes p q h = normal_row_decided cols s at out x y a b p (record {
    answer = λ names. q.answer names ∙ ap (map_read length) (same names);
    room = λ names. q.room names ∙ ap (λ (r : Read (List ℕ)). room_after_read (λ (bytes : List ℕ). bytes) r out) (same names);
  })
    where
      same : (names : List ℕ) → normal_of names cols (s ++ more) at (length out) ≡ normal_of names cols s at (length out)
      same names =
          let cs = columns_told names cols in
          steady_fitted (λ (bytes : List ℕ). bytes) (λ (l : List ℕ). read_at (normal cs) l at) (length out)
          (steady_at (normal cs) at (stream_normal cs).steady) s more (λ e. h (p.answer names ∙ ap (map_read length) e))
