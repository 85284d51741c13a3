-- An answer other than refusal 1 does not change when more bytes follow the input: of `judge_row`, of `read_row` and its room, and of `value`.
-- Why it holds: the definitions that the contracts tell are steady, and the contracts decide their answers.
-- Assumes nothing.
use Rattle.std.specs.Prelude.{Result}
use mathlib.Core.Path.{◌≡◌, ap, ◌∙◌}
use mathlib.Core.List.{List, ◌++◌}
use Prim.Native.Nat.{ℕ, ◌-◌}
use lib.ListN.{length}
use Rattle.format.specs.Answer.{Read, stops, missing, map_read, read_at, fitted_read, room_after_read}
use Rattle.format.specs.Value.{Value, read_value, copied_out}
use Rattle.format.specs.Row.{read_row, copied_out_row}
use Rattle.format.proofs.More.{steady_at, steady_fitted}
use Rattle.format.proofs.MoreReaders.{stream_value, stream_row}
use Rattle.column_type.specs.declared.Column.{Column}
use Rattle.column_type.specs.Told.{column_told}
use Rattle.columns.specs.Told.{columns_told}
use Rattle.judge_step.specs.Told.{needs_of, row_judged_told}
use Rattle.row_judge.proofs.Decided.{JudgesRow, judge_row_decided}
use Rattle.row_place.specs.declared.RowPlace.{RowPlace}
use Rattle.row_place.specs.Told.{placed_of, row_value_told, most_room}
use Rattle.row_place.proofs.Decided.{GivesValue, value_decided}
use Rattle.read_step.specs.Told.{first_place, row_read_told}
use Rattle.row_read.proofs.Decided.{read_out, ReadsRow, read_row_decided}
use Rattle.wire.specs.declared.Refusal.{Refusal}
use Rattle.value_found.specs.declared.Found.{Found}
use Rattle.cursor.specs.declared.Cursor.{Cursor}
use Rattle.judge_step.specs.declared.RowNeeds.{RowNeeds}

module _ (cols : List Column) (s more : List ℕ) (at : ℕ) where
  -- `row_judge::judge_row`
  pub more_judged : (x y : Result RowNeeds Refusal) → JudgesRow cols s at x → JudgesRow cols (s ++ more) at y → (row_judged_told x ≡ stops missing → ⊥) → x ≡ y
  more_judged x y p q h =
      judge_row_decided cols s at x y p (record { told = λ b. q.told b ∙ ap (map_read (needs_of (columns_told b cols))) (same b) })
    where
      same : (b : List ℕ) → read_at (read_row (columns_told b cols)) (s ++ more) at ≡ read_at (read_row (columns_told b cols)) s at
      same b =
          let cs = columns_told b cols in
          steady_at (read_row cs) at (stream_row cs).steady s more (λ e. h (p.told b ∙ ap (map_read (needs_of cs)) e))

  -- `row_read::read_row`, its room included
  pub more_read : (out : List ℕ) (x y : Result (RowPlace × Cursor) Refusal) (a b : List ℕ) → ReadsRow cols s at out x a → ReadsRow cols (s ++ more) at out y b
      → (row_read_told x ≡ stops missing → ⊥) → (x ≡ y) × (a ≡ b)
  more_read out x y a b p q h = read_row_decided cols s at out x y a b p (record {
    told = λ names. q.told names ∙ ap (map_read (λ (vs : List Value). first_place at)) (same names);
    room = λ names. q.room names ∙ ap (λ (r : Read (List Value)). room_after_read (copied_out_row (columns_told names cols)) r out) (same names);
  })
    where
      same : (names : List ℕ) → read_out cols (s ++ more) at out names ≡ read_out cols s at out names
      same names =
          let cs = columns_told names cols in
          steady_fitted (copied_out_row cs) (λ (l : List ℕ). read_at (read_row cs) l at) (length out) (steady_at (read_row cs) at (stream_row cs).steady) s more
          (λ e. h (p.told names ∙ ap (map_read (λ (vs : List Value). first_place at)) e))

-- `row_place::RowPlace::value`
pub more_value : (c : Column) (s more : List ℕ) (p : RowPlace) (x y : Result (Found × RowPlace) Refusal) → GivesValue c s p x → GivesValue c (s ++ more) p y
    → (row_value_told x ≡ stops missing → ⊥) → x ≡ y
more_value c s more p x y g k h = value_decided c s p x y g (record {
  told = λ b. k.told b ∙ ap (map_read (placed_of (column_told b c) p.cursor.at p.copied)) (same b);
  canonical = k.canonical;
})
  where
    same : (b : List ℕ) →
        let d = column_told b c in
        let room = most_room - p.copied in
        fitted_read (copied_out d) (read_at (read_value d) (s ++ more) p.cursor.at) room
        ≡ fitted_read (copied_out d) (read_at (read_value d) s p.cursor.at) room
    same b =
        let d = column_told b c in
        steady_fitted (copied_out d) (λ (l : List ℕ). read_at (read_value d) l p.cursor.at) (most_room - p.copied)
        (steady_at (read_value d) p.cursor.at (stream_value d).steady) s more (λ e. h (g.told b ∙ ap (map_read (placed_of d p.cursor.at p.copied)) e))
