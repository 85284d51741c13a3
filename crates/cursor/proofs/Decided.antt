-- No two outcomes satisfy the contract of a method of the cursor: an answer is one of the layer below with the place in another record, and there no two do.
-- Assumes nothing.
use Rattle.std.specs.Prelude.{Err, None, Ok, Option, Result, Some}
use mathlib.Core.Path.{◌≡◌, refl, sym, ◌∙◌}
use mathlib.Core.List.{List}
use mathlib.Core.Bool.{Bool}
use Prim.Native.Nat.{ℕ, ◌+◌}
use lib.ListN.{length}
use Rattle.format.specs.Answer.{Read, map_read, read_at}
use Rattle.format.specs.Plp as P
use Rattle.format.specs.Header.{read_header}
use Rattle.format.specs.Descriptor.{read_column}
use Rattle.format.proofs.Decided.{Undoes, decided}
use Rattle.wire.specs.declared.Cursor as Wire
use Rattle.wire.specs.declared.Refusal.{Refusal}
use Rattle.wire.specs.Told as WT
use Rattle.header.specs.Told as HT
use Rattle.column_type.specs.Told as CT
use Rattle.wire.proofs.Decided as W
use Rattle.header.proofs.Decided as H
use Rattle.column_type.proofs.Decided as C
use Rattle.plp.specs.declared.Opened as Plp
use Rattle.plp.specs.declared.Opened.TheVariants as PO
use Rattle.plp.specs.Told as PT
use Rattle.plp.proofs.Decided as PD
use Rattle.plp_join.specs.Told as JT
use Rattle.plp_join.proofs.Decided as JD
use Rattle.header.specs.declared.Header.{Header}
use Rattle.column_type.specs.declared.Column.{Column}
use Rattle.value_found.specs.declared.Found.{Found}
use Rattle.value_found.specs.Told as VT
use Rattle.value_read.specs.Told.{found_out, room_out}
use Rattle.value_read.proofs.Decided as VD
use Rattle.cursor.specs.declared.Cursor.{Cursor}
use Rattle.cursor.specs.declared.Opened.{Opened}
use Rattle.cursor.specs.declared.Opened.TheVariants as O
use Rattle.cursor.specs.Told.{
  read_told,
  header_told,
  column_read_told,
  NamesFrom,
  opened_told,
  joined_told,
  value_read_told,
  CanonicalRead,
}

-- ---- an answer of the layer below, with the place in another record: where it is decided, so is the cursor's

lifted : {A B : Type 0} (down : A → B) (up : B → A) → Undoes down up → (x y : A) → down x ≡ down y → x ≡ y
lifted down up u x y e = decided down up u x y (down y) e refl

abbrev down : {A : Type 0} → Result (A × Cursor) Refusal → Result (A × Wire.Cursor) Refusal
down (Ok (v, next)) = Ok (v, (record { at = next.at }))
down (Err e) = Err e

abbrev up : {A : Type 0} → Result (A × Wire.Cursor) Refusal → Result (A × Cursor) Refusal
up (Ok (v, next)) = Ok (v, (record { at = next.at }))
up (Err e) = Err e

undoes : {A : Type 0} → Undoes (down {A = A}) (up {A = A})
undoes (Ok (v, next)) = refl
undoes (Err e) = refl

one : {A : Type 0} (x y : Result (A × Cursor) Refusal) → down x ≡ down y → x ≡ y
one {A = A} = lifted (down {A = A}) up undoes

-- ---- `cursor::Cursor::byte`, `cursor::Cursor::low`, `cursor::Cursor::high`, `cursor::Cursor::guid`

read_same : {A : Type 0} (r : Result (A × Cursor) Refusal) → read_told r ≡ WT.read_told (down r)
read_same (Ok (v, next)) = refl
read_same (Err e) = refl

pub read_decided : {A : Type 0} (x y : Result (A × Cursor) Refusal) (b : Read A) → read_told x ≡ b → read_told y ≡ b → x ≡ y
read_decided x y b p q = one x y (W.read_decided (down x) (down y) b (sym (read_same x) ∙ p) (sym (read_same y) ∙ q))

-- ---- `cursor::Cursor::header`

header_same : (r : Result (Header × Cursor) Refusal) → header_told r ≡ HT.header_told (down r)
header_same (Ok (h, next)) = refl
header_same (Err e) = refl

module _ (s : List ℕ) (at : ℕ) where
  pub header_decided : (x y : Result (Header × Cursor) Refusal) → header_told x ≡ read_at read_header s at → header_told y ≡ read_at read_header s at → x ≡ y
  header_decided x y p q = one x y (H.read_header_decided s at (down x) (down y) (sym (header_same x) ∙ p) (sym (header_same y) ∙ q))

-- ---- `cursor::Cursor::column`

column_same : (s : List ℕ) (r : Result (Column × Cursor) Refusal) → column_read_told s r ≡ CT.column_read_told s (down r)
column_same s (Ok (c, next)) = refl
column_same s (Err e) = refl

names_same : (s : List ℕ) (place : ℕ) (r : Result (Column × Cursor) Refusal) → NamesFrom s place r → CT.NamesFrom s place (down r)
names_same s place (Ok (c, next)) h = h
names_same s place (Err e) h = h

module _ (s : List ℕ) (at : ℕ) where
  -- both clauses of the contract
  pub record Reads (r : Result (Column × Cursor) Refusal) : Type 0 where
    pub told : column_read_told s r ≡ read_at read_column s at
    pub names : NamesFrom s (at + 3) r

  below : (r : Result (Column × Cursor) Refusal) → Reads r → C.Reads s at (down r)
  below r h = record { told = sym (column_same s r) ∙ h.told; names = names_same s (at + 3) r h.names }

  pub column_decided : (x y : Result (Column × Cursor) Refusal) → Reads x → Reads y → x ≡ y
  column_decided x y p q = one x y (C.read_column_decided s at (down x) (down y) (below x p) (below y q))

-- ---- `cursor::Cursor::open_walk`

abbrev opened_down : Result Opened Refusal → Result Plp.Opened Refusal
opened_down (Ok (O.Walk w)) = Ok (PO.Walk w)
opened_down (Ok (O.Null next)) = Ok (PO.Null (record { at = next.at }))
opened_down (Err e) = Err e

abbrev opened_up : Result Plp.Opened Refusal → Result Opened Refusal
opened_up (Ok (PO.Walk w)) = Ok (O.Walk w)
opened_up (Ok (PO.Null next)) = Ok (O.Null (record { at = next.at }))
opened_up (Err e) = Err e

opened_undoes : Undoes opened_down opened_up
opened_undoes (Ok (O.Walk w)) = refl
opened_undoes (Ok (O.Null next)) = refl
opened_undoes (Err e) = refl

opened_same : (r : Result Opened Refusal) → opened_told r ≡ PT.opened_told (opened_down r)
opened_same (Ok (O.Walk w)) = refl
opened_same (Ok (O.Null next)) = refl
opened_same (Err e) = refl

pub open_walk_decided : (x y : Result Opened Refusal) (b : Read (Option P.Walk)) → opened_told x ≡ b → opened_told y ≡ b → x ≡ y
open_walk_decided x y b p q =
    lifted opened_down opened_up opened_undoes x y
    (PD.open_walk_decided (opened_down x) (opened_down y) b (sym (opened_same x) ∙ p) (sym (opened_same y) ∙ q))

-- ---- `cursor::Cursor::join_plp`

joined_same : (r : Result (Option ℕ × Cursor) Refusal) → joined_told r ≡ JT.joined_told (down r)
joined_same (Ok (None, next)) = refl
joined_same (Ok (Some n, next)) = refl
joined_same (Err e) = refl

module _ (text : Bool) (s : List ℕ) (at : ℕ) (out : List ℕ) where
  -- both clauses of the contract
  pub record Joins (r : Result (Option ℕ × Cursor) Refusal) (after : List ℕ) : Type 0 where
    pub answer : joined_told r ≡ map_read JT.counted (P.join_plp text s at (length out))
    pub room : after ≡ P.room_after_join text s at out

  beneath : (r : Result (Option ℕ × Cursor) Refusal) (after : List ℕ) → Joins r after → JD.JoinsPlp text s at out (down r) after
  beneath r after h = record { answer = sym (joined_same r) ∙ h.answer; room = h.room }

  pub join_plp_decided : (x y : Result (Option ℕ × Cursor) Refusal) (a b : List ℕ) → Joins x a → Joins y b → (x ≡ y) × (a ≡ b)
  join_plp_decided x y a b p q =
      let both = JD.join_plp_decided text s at out (down x) (down y) a b (beneath x a p) (beneath y b q) in (one x y both.0, both.1)

-- ---- `cursor::Cursor::value`

value_same : (r : Result (Found × Cursor) Refusal) → value_read_told r ≡ VT.value_read_told (down r)
value_same (Ok (f, next)) = refl
value_same (Err e) = refl

canonical_same : (r : Result (Found × Cursor) Refusal) → CanonicalRead r → VT.CanonicalRead (down r)
canonical_same (Ok (f, next)) h = h
canonical_same (Err e) h = h

module _ (c : Column) (s : List ℕ) (at : ℕ) (out : List ℕ) where
  -- the three clauses of the contract
  pub record ReadsValue (r : Result (Found × Cursor) Refusal) (after : List ℕ) : Type 0 where
    pub told : (b : List ℕ) → value_read_told r ≡ found_out (CT.column_told b c) s at out
    pub canonical : CanonicalRead r
    pub room : (b : List ℕ) → after ≡ room_out (CT.column_told b c) s at out

  under : (r : Result (Found × Cursor) Refusal) (after : List ℕ) → ReadsValue r after → VD.ReadsValue c s at out (down r) after
  under r after h = record { told = λ b. sym (value_same r) ∙ h.told b; canonical = canonical_same r h.canonical; room = h.room }

  pub value_decided : (x y : Result (Found × Cursor) Refusal) (a b : List ℕ) → ReadsValue x a → ReadsValue y b → (x ≡ y) × (a ≡ b)
  value_decided x y a b p q =
      let both = VD.read_value_decided c s at out (down x) (down y) a b (under x a p) (under y b q) in (one x y both.0, both.1)

-- `cursor::Cursor::short_content` promises its answer itself
pub part_decided : (x y b : List ℕ) → x ≡ b → y ≡ b → x ≡ y
part_decided x y b p q = p ∙ sym q
