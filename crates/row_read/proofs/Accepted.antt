-- A row that was read: taking `value` for each column in turn, from the place that `read_row` handed back, is never refused, gives what the definitions find
-- and ends where the row ends; and each content that was found is there, in the input or in the room afterwards.
-- Why it holds: the columns' values were read one after another at these places, and what they copy out fits the room, so that no count of copied bytes is too
-- long; content stands where it is found by the laws of `format`.
-- Assumes nothing.
use Rattle.std.specs.Prelude.{Err, Ok, Result}
use mathlib.Core.Path.{◌≡◌, refl, sym, ap, ◌∙◌, subst}
use mathlib.Core.Bool.{false}
use mathlib.Core.List.{List, [], ◌∷◌, ◌++◌}
use Prim.Native.Nat.{ℕ, ◌+◌, ◌-◌, ◌≤◌}
use native.Mathlib.Omega.{arith}
use lib.Dec.{ltb}
use lib.ListN.{length, length-append}
use borrow.Author.Tests.{le-ltb}
use Rattle.lists.proofs.Split.{clash}
use Rattle.format.specs.Answer.{took, read_at, fitted_read}
use Rattle.format.specs.Descriptor as D
use Rattle.format.specs.Value.{Value, read_value, copied_out}
use Rattle.format.specs.Row.{read_values, read_row, copied_out_row}
use Rattle.format.specs.Found as F
use Rattle.format.specs.Found.{found_row}
use Rattle.format.proofs.Place.{took_at, map-took}
use Rattle.format.proofs.Found.{AllStand, read_fits, columns, first_then, read_row-stands}
use Rattle.cursor.specs.declared.Cursor.{Cursor}
use Rattle.column_type.specs.declared.Column.{Column}
use Rattle.column_type.specs.Told.{column_told}
use Rattle.columns.specs.Told.{columns_told}
use Rattle.value_found.specs.declared.Found.{Found}
use Rattle.value_found.specs.Told.{found_told}
use Rattle.row_place.specs.declared.RowPlace.{RowPlace}
use Rattle.row_place.specs.Told.{Placed, placed_of, row_value_told, most_room, placed_at}
use Rattle.row_place.proofs.Decided.{GivesValue}
use Rattle.read_step.specs.Told.{Place, first_place, place_told}
use Rattle.read_step.proofs.Joining.{within}
use Rattle.row_read.proofs.Decided.{read_out, ReadsRow}
use Rattle.wire.specs.declared.Refusal.{Refusal}

-- ---- taking `value` for each column in turn: whatever it may answer by its contract is the value that is found, and it goes on at the next place

abbrev pub Accepts : List ℕ → List Column → RowPlace → List F.Found → ℕ → Type 0
Accepts s [] p [] next = p.cursor.at ≡ next
Accepts s [] p (g ∷ gs) next = ⊥
Accepts s (c ∷ cs) p [] next = ⊥
Accepts s (c ∷ cs) p (g ∷ gs) next =
    (r : Result (Found × RowPlace) Refusal) → GivesValue c s p r → (f : Found) × (q : RowPlace) × (r ≡ Ok (f, q)) × (found_told f ≡ g) × Accepts s cs q gs next

-- ---- one column

module _ (d : D.Column) (s : List ℕ) (at copied : ℕ) (v : Value) (m : ℕ) (e : read_at (read_value d) s at ≡ took v m)
    (l : copied + length (copied_out d v) ≤ most_room) where
  placed_is : placed_at d s at copied ≡ took (placed_of d at copied v) m
  unfolding fitted_read
  placed_is =
      let t : ltb (most_room - copied) (length (copied_out d v)) ≡ false = le-ltb (most_room - copied) (length (copied_out d v)) (omega (arith, l)) in
      rw (e, t)

  -- an answer that tells it
  record Given (r : Result (Found × RowPlace) Refusal) : Type 0 where
    pub found : Found
    pub place : RowPlace
    pub is : r ≡ Ok (found, place)
    pub told : found_told found ≡ F.found_of d at copied v
    pub next : place.cursor.at ≡ m
    pub more : place.copied ≡ copied + length (copied_out d v)

  given : (r : Result (Found × RowPlace) Refusal) → row_value_told r ≡ placed_at d s at copied → Given r
  given (Ok (f, q)) h =
      let t : took (record { found = found_told f; copied = q.copied }) q.cursor.at ≡ took (placed_of d at copied v) m = h ∙ placed_is in
      let z : ◌≡◌ {A = Placed} (record { found = found_told f; copied = q.copied }) (placed_of d at copied v) = cc t in
      let n : q.cursor.at ≡ m = cc t in
      record { found = f; place = q; is = refl; told = ap (λ (x : Placed). x.found) z; next = n; more = ap (λ (x : Placed). x.copied) z }
  given (Err r) h = clash (cc (h ∙ placed_is))

-- ---- the columns, one after another

accepts : (b : List ℕ) (cs : List Column) (s : List ℕ) (p : RowPlace) (vs : List Value) (next : ℕ)
    → read_at (read_values (columns_told b cs)) s p.cursor.at ≡ took vs next → p.copied + length (copied_out_row (columns_told b cs) vs) ≤ most_room
    → Accepts s cs p (found_row (columns_told b cs) s p.cursor.at p.copied) next
unfolding read_values found_row copied_out_row
accepts b [] s p vs next h l =
    let t = took_at (read_values []) s p.cursor.at vs next h in
    let z : 0 ≡ t.1 = cc t.2 in
    omega (arith, z, t.3)
accepts b (c ∷ cs) s p vs next h l =
    let d = column_told b c in
    let ds = columns_told b cs in
    let t = first_then d ds s p.cursor.at vs next h in
    let v = t.0 in
    let k : p.copied + length (copied_out d v ++ copied_out_row ds t.2) ≤ most_room = rw (← t.5) at l in
    let a = length-append (copied_out d v) (copied_out_row ds t.2) in
    let i : p.copied + length (copied_out d v) ≤ most_room = omega (arith, k, a) in
    rw t.3 (λ r g.
    let x = given d s p.cursor.at p.copied v t.1 t.3 i r (g.told b) in
    let y : read_at (read_values ds) s x.place.cursor.at ≡ took t.2 next = rw x.next t.4 in
    let w : x.place.copied + length (copied_out_row ds t.2) ≤ most_room = omega (arith, k, a, x.more) in
    let u = accepts b cs s x.place t.2 next y w in
    (x.found, x.place, x.is, x.told, rw (x.next, x.more) at u))

-- ---- the call

-- what a row that was read is
pub record Accepted (cols : List Column) (s : List ℕ) (at : ℕ) (after : List ℕ) (p : RowPlace) (next : Cursor) (b : List ℕ) : Type 0 where
  pub values : List Value
  pub reads : read_at (read_row (columns_told b cols)) s at ≡ took values next.at
  pub taken : Accepts s cols p (found_row (columns_told b cols) s at 0) next.at
  pub stands : AllStand s after (found_row (columns_told b cols) s at 0) values

-- from the first place on
from_first : (b : List ℕ) (cols : List Column) (s : List ℕ) (at : ℕ) (out : List ℕ) (p : RowPlace) (vs : List Value) (next : ℕ) → length out ≤ most_room
    → read_out cols s at out b ≡ took vs next → at ≡ p.cursor.at → 0 ≡ p.copied → Accepts s cols p (found_row (columns_told b cols) s at 0) next
from_first b cols s at out p vs next l h e z =
    let cs = columns_told b cols in
    let r = read_fits (copied_out_row cs) (length out) (read_at (read_row cs) s at) vs next h in
    let w = within cs (length out) (read_at (read_row cs) s at) vs next h in
    let y : read_at (read_values cs) s p.cursor.at ≡ took vs next = rw (← e) (columns cs s at vs next out r) in
    let g : found_row cs s p.cursor.at p.copied ≡ found_row cs s at 0 =
    ap (λ (k : ℕ). found_row cs s k p.copied) (sym e) ∙ ap (found_row cs s at) (sym z) in
    subst (λ (fs : List F.Found). Accepts s cols p fs next) g (accepts b cols s p vs next y (omega (arith, w, l, z)))

-- a room has no more bytes than a number counts
pub accepted : (cols : List Column) (s : List ℕ) (at : ℕ) (out : List ℕ) (p : RowPlace) (next : Cursor) (after : List ℕ) → length out ≤ most_room
    → ReadsRow cols s at out (Ok (p, next)) after → (b : List ℕ) → Accepted cols s at after p next b
accepted cols s at out p next after l h b =
    let cs = columns_told b cols in
    let t = map-took (λ (vs : List Value). first_place at) (read_out cols s at out b) (place_told p) next.at (sym (h.told b)) in
    let stands = read_row-stands cs s at t.0 next.at out t.1 in
    record {
      values = t.0;
      reads = read_fits (copied_out_row cs) (length out) (read_at (read_row cs) s at) t.0 next.at t.1;
      taken = from_first b cols s at out p t.0 next.at l t.1 (ap (λ (x : Place). x.at) t.2) (ap (λ (x : Place). x.copied) t.2);
      stands = subst (λ (x : List ℕ). AllStand s x (found_row cs s at 0) t.0) (sym (h.room b)) stands;
    }
