-- Of the code, by the contracts of `write_value` and `read_value`:
--   written_read: whatever the writer wrote, with anything before it and anything behind it, reads back as the value that was given: the same kind, and content
--     that stands where it is said to, in the input or in the room; and the next place is where the writer's bytes end.
--   scalar_read: a canonical scalar reads back as itself.
--   more_bytes: an answer other than refusal 1 does not change when more bytes follow, and neither does the room.
-- It holds since the definitions agree (format: Writing, Found, More), and since the contracts decide the calls (Decided).
-- Assumes nothing.
use Rattle.std.specs.Prelude.{Ok, Result}
use mathlib.Core.Path.{◌≡◌, refl, sym, ap, ◌∙◌, subst}
use mathlib.Core.Bool.{Bool, true, false}
use mathlib.Core.List.{List, [], ◌++◌}
use Prim.Native.Nat.{ℕ, ◌+◌, ◌≤◌}
use native.Mathlib.Omega.{arith}
use lib.Dec.{ltb}
use lib.ListN.{length, take, drop, length-append}
use lib.Seq.{take-append_seam, drop-append_seam}
use borrow.Author.Tests.{le-ltb}
use Rattle.format.specs.Answer.{
  Answer,
  gives,
  refuses,
  missing,
  room,
  Read,
  took,
  stops,
  map_read,
  read_at,
  fitted,
  wrote,
  room_after,
  fitted_read,
  room_after_read,
}
use Rattle.lists.specs.Pick.{pick}
use Rattle.format.specs.Descriptor as D
use Rattle.format.specs.Value as Values
use Rattle.format.specs.Value.{Given, read_value, is_plp, copied_out, value_of, write_value}
use Rattle.format.specs.Found.{found_of}
use Rattle.format.proofs.Place.{at_took}
use Rattle.format.proofs.More.{steady_at, steady_fitted}
use Rattle.format.proofs.MoreReaders.{stream_value}
use Rattle.format.proofs.Found.{Stands, read-stands}
use Rattle.format.proofs.Writing.{Ranged, value_agrees}
use Rattle.wire.proofs.Decided.{Writes}
use Rattle.wire.proofs.Writing.{not_refused, count_is}
use Rattle.column_type.specs.declared.Column.{Column}
use Rattle.column_type.specs.Told.{column_told}
use Rattle.value_kind.specs.declared.Scalar.{Scalar}
use Rattle.value_kind.specs.declared.Value.{Value}
use Rattle.value_kind.specs.declared.Value.TheVariants as Gi
use Rattle.value_kind.specs.Told.{value_told, scalar_told, Canonical}
use Rattle.value_found.specs.declared.Found.TheVariants as Fo
use Rattle.value_found.specs.Told.{value_read_told}
use Rattle.value_read.specs.Told.{read_out}
use Rattle.value_read.proofs.Decided.{ReadsValue, read_one, read_value_decided}
use Rattle.wire.specs.declared.Cursor.{Cursor}
use Rattle.value_found.specs.declared.Found.{Found}
use Rattle.wire.specs.declared.Refusal.{Refusal}

-- ---- the bytes that a writer wrote stand at the front of its room

written-front : (a : Answer (List ℕ)) (out after : List ℕ) (n : ℕ) → gives n ≡ wrote (fitted a (length out))
    → after ≡ room_after (fitted a (length out)) out → (a ≡ gives (take n after)) × (length (take n after) ≡ n)
unfolding fitted room_after
written-front (gives bytes) out after n h e = go (ltb (length out) (length bytes)) refl
  where
    go : (t : Bool) → ltb (length out) (length bytes) ≡ t → (gives bytes ≡ gives (take n after)) × (length (take n after) ≡ n)
    go true t = not_refused room n (rw t at h)
    go false t =
        let l : n ≡ length bytes = count_is (gives bytes) n bytes (rw t at h) refl in
        let f : after ≡ bytes ++ drop (length bytes) out = rw t at e in
        let g : take n after ≡ bytes = rw (f, l) (take-append_seam bytes (drop (length bytes) out)) in
        (ap gives (sym g), ap length g ∙ sym l)
written-front (refuses d) out after n h e = not_refused d n h

-- ---- what was written reads back

-- the value that was given; in a room that holds its content it is what was read, and it stands where it is said to
pub record ReadsBack (d : D.Column) (g : Given) (s : List ℕ) (at n : ℕ) (lent after : List ℕ) (r : Result (Found × Cursor) Refusal) : Type 0 where
  pub value : Values.Value
  pub given : value_of g ≡ gives value
  pub reads : length (copied_out d value) ≤ length lent →
      (value_read_told r ≡ took (found_of d at 0 value) (at + n)) × Stands s after (found_of d at 0 value) value

module _ (c : Column) (buffer out written : List ℕ) (n : ℕ) (before rest lent after : List ℕ) (r : Result (Found × Cursor) Refusal) where
  abbrev d : D.Column
  d = column_told buffer c

  abbrev s : List ℕ
  s = before ++ (take n written ++ rest)

  abbrev at : ℕ
  at = length before

  fits_out : (x : Values.Value) → read_at (read_value d) s at ≡ took x (at + n) → length (copied_out d x) ≤ length lent
      → read_out d s at (length lent) ≡ took x (at + n)
  unfolding fitted_read
  fits_out x e l = rw (e, le-ltb (length lent) (length (copied_out d x)) l)

  module _ (v : Value) (ranged : Ranged (value_told buffer v)) (writes : Writes (write_value d (value_told buffer v)) out (Ok n) written)
      (read : ReadsValue c s at lent r after) where
    pub written_read : ReadsBack d (value_told buffer v) s at n lent after r
    written_read =
        let e = written-front (write_value d (value_told buffer v)) out written n writes.answer writes.room in
        let x = value_agrees d (value_told buffer v) (take n written) ranged e.0 in
        let i : at ≤ length s = omega (arith, length-append before (take n written ++ rest)) in
        let f : read_value d (drop at s) ≡ took x.value n =
        ap (read_value d) (drop-append_seam before (take n written ++ rest)) ∙ (x.reads rest ∙ ap (took x.value) e.1) in
        let h = at_took (read_value d) s at x.value n i f in
        record {
          value = x.value;
          given = x.given;
          reads = λ l. (
            read.told buffer ∙ ap (map_read (found_of d at 0)) (fits_out x.value h l),
            subst (λ (room : List ℕ). Stands s room (found_of d at 0 x.value) x.value) (sym (read.room buffer))
                (read-stands d s at x.value (at + n) lent (fits_out x.value h l)),
          );
        }

  -- a scalar takes no room
  pub scalar_read : (x : Scalar) → Canonical x → Ranged (value_told buffer (Gi.Scalar x))
      → Writes (write_value d (value_told buffer (Gi.Scalar x))) out (Ok n) written → ReadsValue c s at lent r after
      → r ≡ Ok ((Fo.Scalar x), (record { at = at + n }))
  unfolding copied_out
  scalar_read x k ranged writes read =
      let b = written_read (Gi.Scalar x) ranged writes read in
      let e : b.value ≡ Values.Value.scalar (scalar_told x) = cc b.given in
      let z : copied_out d b.value ≡ [] = rw e (none_copied (is_plp d)) in
      let l : length (copied_out d b.value) ≤ length lent = omega (arith, ap length z) in
      read_one r (Ok ((Fo.Scalar x), (record { at = at + n }))) read.canonical k (rw e at (b.reads l).0)
    where
      none_copied : (p : Bool) → pick {A = List ℕ} p [] [] ≡ []
      none_copied true = refl
      none_copied false = refl

-- ---- more bytes

module _ (c : Column) (s more : List ℕ) (at : ℕ) (out : List ℕ) (x y : Result (Found × Cursor) Refusal) (a b : List ℕ) where
  pub more_bytes : ReadsValue c s at out x a → ReadsValue c (s ++ more) at out y b → (value_read_told x ≡ stops missing → ⊥) → (x ≡ y) × (a ≡ b)
  more_bytes p q h = read_value_decided c s at out x y a b p (record {
    told = λ names. q.told names ∙ ap (map_read (found_of (column_told names c) at 0)) (same names);
    canonical = q.canonical;
    room = λ names. q.room names ∙ ap (λ (r : Read Values.Value). room_after_read (copied_out (column_told names c)) r out) (same names);
  })
    where
      same : (names : List ℕ) → read_out (column_told names c) (s ++ more) at (length out) ≡ read_out (column_told names c) s at (length out)
      same names =
          let d = column_told names c in
          steady_fitted (copied_out d) (λ (l : List ℕ). read_at (read_value d) l at) (length out) (steady_at (read_value d) at (stream_value d).steady) s more
          (λ e. h (p.told names ∙ ap (map_read (found_of d at 0)) e))
