-- No two outcomes satisfy the contract of `RowPlace::value`.
-- Why it holds: the places have an inverse, and what was found has one value that tells it.
-- Assumes nothing.
use Rattle.std.specs.Prelude.{Err, Ok, Result}
use mathlib.Core.Path.{◌≡◌, refl, sym, ap, ◌∙◌}
use mathlib.Core.List.{List, []}
use Prim.Native.Nat.{ℕ}
use Rattle.lists.proofs.Split.{clash}
use Rattle.format.proofs.Decided.{decided}
use Rattle.wire.specs.Told.{refusal_told}
use Rattle.wire.proofs.Decided.{refusal_back, refusal_undoes}
use Rattle.column_type.specs.declared.Column.{Column}
use Rattle.column_type.specs.Told.{column_told}
use Rattle.value_found.specs.declared.Found.{Found}
use Rattle.value_found.specs.Told.{found_told}
use Rattle.value_found.proofs.Decided.{found_one}
use Rattle.row_place.specs.declared.RowPlace.{RowPlace}
use Rattle.row_place.specs.Told.{Placed, row_value_told, CanonicalPlaced, placed_at}
use Rattle.wire.specs.declared.Refusal.{Refusal}

abbrev place_of : ℕ → ℕ → RowPlace
place_of at copied = record { cursor = record { at = at }; copied = copied }

pub placed_one : (x y : Result (Found × RowPlace) Refusal) → CanonicalPlaced x → CanonicalPlaced y → row_value_told x ≡ row_value_told y → x ≡ y
placed_one (Ok (f, p)) (Ok (g, q)) c d e =
    let t : ◌≡◌ {A = Placed} (record { found = found_told f; copied = p.copied }) (record { found = found_told g; copied = q.copied }) = cc in
    let s : found_told f ≡ found_told g = ap (λ (x : Placed). x.found) t in
    let m : p.copied ≡ q.copied = ap (λ (x : Placed). x.copied) t in
    let n : p.cursor.at ≡ q.cursor.at = cc in
    ap (λ (h : Found). Ok (h, p)) (found_one f g c d s)
    ∙ (ap (λ (k : ℕ). Ok (g, (place_of k p.copied))) n ∙ ap (λ (k : ℕ). Ok (g, (place_of q.cursor.at k))) m)
placed_one (Ok (f, p)) (Err d) c h e = clash cc
placed_one (Err d) (Ok (g, q)) c h e = clash cc
placed_one (Err d) (Err h) c k e =
    let s : refusal_told d ≡ refusal_told h = cc in
    ap Err (decided refusal_told refusal_back refusal_undoes d h (refusal_told h) s refl)

-- what it promises of its answer
pub record GivesValue (c : Column) (s : List ℕ) (p : RowPlace) (r : Result (Found × RowPlace) Refusal) : Type 0 where
  pub told : (b : List ℕ) → row_value_told r ≡ placed_at (column_told b c) s p.cursor.at p.copied
  pub canonical : CanonicalPlaced r

-- and that this is one answer
pub value_decided : (c : Column) (s : List ℕ) (p : RowPlace) (x y : Result (Found × RowPlace) Refusal) → GivesValue c s p x → GivesValue c s p y → x ≡ y
value_decided c s p x y g h = placed_one x y g.canonical h.canonical (g.told [] ∙ sym (h.told []))
