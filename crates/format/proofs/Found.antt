-- Content that was read is where it is said to stand: the part of the input behind a value's two length bytes, or the part of the room behind what was copied
-- before it. `found-stands` for one value at a place, `read-stands` for one value and its room, `row-stands` for the columns of a row,
-- one after another, `read_row-stands` for a row and its room. `found_steady`: more bytes behind the input move nothing.
-- A short value's content is the bytes behind its length; a PLP value's is what is copied out, and the room holds that behind the columns before it.
-- Assumes nothing.
use Rattle.std.specs.Prelude.{None, Option, Some}
use mathlib.Core.Path.{◌≡◌, refl, ap, sym, ◌∙◌}
use mathlib.Core.List.{List, [], ◌∷◌, ◌++◌, append_assoc}
use mathlib.Core.Bool.{Bool, true, false, not}
use Prim.Native.Nat.{ℕ, ◌+◌, ◌≤◌}
use native.Mathlib.Omega.{arith}
use lib.ListN.{length, take, drop, length-append, length-drop}
use lib.Seq.{drop-drop, take-append_seam, drop-append_seam}
use lib.Dec.{ltb, eqb}
use borrow.Author.Tests.{le-ltb}
use Rattle.lists.specs.Pick.{pick}
use Rattle.lists.proofs.Split.{split}
use Rattle.format.specs.Answer.{missing, rule, long, sequence, Read, took, stops, then_read, map_read, read_at, fitted_read, room_after_read}
use Rattle.format.specs.Answer.{Part, inside, part}
use Rattle.format.specs.Number.{read_byte, read_low, read_bytes}
use Rattle.format.specs.Descriptor.{Column, keeps_rule}
use Rattle.format.specs.Scalar.{Kind, read_scalar}
use Rattle.format.specs.Plp.{plp_mark, is_odd}
use Rattle.format.specs.Value.{Value, ContentKind, Family, fixed_width, length_byte, content, family_of, is_text, content_value, of_width, read_width}
use Rattle.format.specs.Value.{read_length_byte, short_null, read_short, read_family, read_value, content_of, is_plp, copied_out}
use Rattle.format.specs.Row.{max_columns, cons_read, read_values, read_row, copied_out_row}
use Rattle.format.specs.Found.{Stand, in_input, in_room, Found, found_of, found_next, found_row, part_or_empty, handed_back}
use Rattle.format.proofs.Place.{past, no_took, took_at, at_took, at_then, at_then_stops, at_map-stops, next_inside, then_took, map-took}
use Rattle.format.proofs.Place.{stays_low, stays_bytes}
use Rattle.format.proofs.Plain.{low-took, bytes-took}
use Rattle.format.proofs.More.{steady_at}
use Rattle.format.proofs.MoreReaders.{stream_value}

-- ---- what it is to stand

abbrev pub part_at : List ℕ → List ℕ → Stand → Part
part_at s room (in_input start count) = part s start count
part_at s room (in_room start count) = part room start count

-- a value with its content, and the same value found in the input and the room
abbrev pub Stands : List ℕ → List ℕ → Found → Value → Type 0
Stands s room Found.null Value.null = Unit {0}
Stands s room Found.null (Value.scalar w) = ⊥
Stands s room Found.null (Value.binary c) = ⊥
Stands s room Found.null (Value.string c) = ⊥
Stands s room (Found.scalar v) Value.null = ⊥
Stands s room (Found.scalar v) (Value.scalar w) = v ≡ w
Stands s room (Found.scalar v) (Value.binary c) = ⊥
Stands s room (Found.scalar v) (Value.string c) = ⊥
Stands s room (Found.binary p) Value.null = ⊥
Stands s room (Found.binary p) (Value.scalar w) = ⊥
Stands s room (Found.binary p) (Value.binary c) = part_at s room p ≡ inside c
Stands s room (Found.binary p) (Value.string c) = ⊥
Stands s room (Found.string p) Value.null = ⊥
Stands s room (Found.string p) (Value.scalar w) = ⊥
Stands s room (Found.string p) (Value.binary c) = ⊥
Stands s room (Found.string p) (Value.string c) = part_at s room p ≡ inside c

abbrev pub AllStand : List ℕ → List ℕ → List Found → List Value → Type 0
AllStand s room [] [] = Unit {0}
AllStand s room [] (v ∷ vs) = ⊥
AllStand s room (f ∷ fs) [] = ⊥
AllStand s room (f ∷ fs) (v ∷ vs) = Stands s room f v × AllStand s room fs vs

-- a part in the middle
part-middle : (before c after : List ℕ) → part (before ++ (c ++ after)) (length before) (length c) ≡ inside c
unfolding part
part-middle before c after =
    let l = length-append before (c ++ after) in
    let m = length-append c after in
    let t = le-ltb (length (before ++ (c ++ after))) (length before + length c) (omega arith) in
    rw (t, drop-append_seam before (c ++ after), take-append_seam c after)

-- ---- a value's content

abbrev content_as : Value → Option (List ℕ)
content_as Value.null = None
content_as (Value.scalar v) = None
content_as (Value.binary c) = Some c
content_as (Value.string c) = Some c

as_content : (k : ContentKind) (c : List ℕ) → content_as (content_value k (Some c)) ≡ Some c
as_content ContentKind.binary c = refl
as_content ContentKind.string c = refl

-- a value without content has none
no_content : {P : Type 0} (v w : Value) (c : List ℕ) → w ≡ v → content_as w ≡ None → content_as v ≡ Some c → P
no_content v w c e n h = let z : ◌≡◌ {A = ℕ} 0 1 = cc (ap content_as e) in absurd (omega arith)

-- short content: the bytes behind the two of the length
module _ (s : List ℕ) (v : Value) (n : ℕ) (c : List ℕ) (has : content_as v ≡ Some c) where
  Short : Type 0
  Short = (take (length c) (drop 2 s) ≡ c) × (2 + length c ≤ length s)

  short_bytes_lem : (k : ContentKind) (m j : ℕ) → 2 ≤ length s → map_read (λ x. content_value k (Some x)) (read_bytes m (drop 2 s)) ≡ took v j → Short
  unfolding Short
  short_bytes_lem k m j i h =
      let p = map-took (λ x. content_value k (Some x)) (read_bytes m (drop 2 s)) v j h in
      let b = bytes-took m (drop 2 s) p.0 j p.1 in
      let q : Some p.0 ≡ Some c = sym (as_content k p.0) ∙ (ap content_as p.2 ∙ has) in
      let e : p.0 ≡ c = cc in
      let l : m ≡ length c = sym b.2 ∙ ap length e in
      let y = stays_bytes m (drop 2 s) p.0 j p.1 in
      (rw (← l) (b.0 ∙ e), omega (arith, y, b.1, length-drop 2 s))

  of_short : (k : ContentKind) (declared m j : ℕ) → 2 ≤ length s → read_short k declared m (drop 2 s) ≡ took v j → Short
  of_short k declared m j i =
      split (eqb m short_null) (λ _ e. let q : Value.null ≡ v = cc in no_content v Value.null c q refl has)
      (λ _ e.
      let p = past (ltb declared m) long _ v j e in
      let q = past (is_odd (is_text k) m) sequence _ v j p.1 in
      short_bytes_lem k m j i q.1)

  behind-length : (k : ContentKind) (declared : ℕ) → then_read (read_low 2) (read_short k declared) s ≡ took v n → Short
  behind-length k declared h =
      let t = then_took (read_low 2) (read_short k declared) s v n h in
      let w = low-took 2 s t.0 t.1 t.3 in
      let i = stays_low 2 s t.0 t.1 t.3 in
      let e : read_short k declared t.0 (drop 2 s) ≡ took v t.2 = ap (λ (j : ℕ). read_short k declared t.0 (drop j s)) (sym w) ∙ t.4 in
      of_short k declared t.0 t.2 (omega arith) e

  of_scalar : (k : Kind) → map_read Value.scalar (read_scalar k s) ≡ took v n → Short
  of_scalar k h = let p = map-took Value.scalar (read_scalar k s) v n h in no_content v (Value.scalar p.0) c p.2 refl has

module _ (v : Value) (c : List ℕ) (has : content_as v ≡ Some c) where
  of_width_lem : {P : Type 0} (declared n : ℕ) (k : Option Kind) (s : List ℕ) (j : ℕ) → read_width declared n k s ≡ took v j → P
  of_width_lem declared n None s j h = no_took sequence v j h
  of_width_lem declared n (Some k) s j h =
      let q = past (ltb declared n) long _ v j h in
      let p = map-took Value.scalar (read_scalar k s) v j q.1 in
      no_content v (Value.scalar p.0) c p.2 refl has

  of_length_byte : {P : Type 0} (ks : List Kind) (declared n : ℕ) (s : List ℕ) (j : ℕ) → read_length_byte ks declared n s ≡ took v j → P
  of_length_byte ks declared n s j =
      split (eqb n 0) (λ _ e. let q : Value.null ≡ v = cc in no_content v Value.null c q refl has) (λ _ e. of_width_lem declared n (of_width ks n) s j e)

module _ (s : List ℕ) (v : Value) (n : ℕ) (c : List ℕ) (has : content_as v ≡ Some c) where
  of_family : (declared : ℕ) (f : Option Family) → eqb declared plp_mark ≡ false → read_family declared f s ≡ took v n → Short s v n c has
  of_family declared None t h = no_took _ v n h
  of_family declared (Some (fixed_width k)) t h = of_scalar s v n c has k h
  of_family declared (Some (length_byte ks)) t h =
      let p = then_took read_byte (read_length_byte ks declared) s v n h in
      of_length_byte v c has ks declared p.0 (drop p.1 s) p.2 p.4
  of_family declared (Some (content k)) t h = behind-length s v n c has k declared (rw t at h)

  short_content_lem : (d : Column) → is_plp d ≡ false → read_value d s ≡ took v n → Short s v n c has
  unfolding read_value
  short_content_lem d t h = let p = past (not (keeps_rule d)) rule _ v n h in of_family d.length (family_of d.type) t p.1

-- ---- one value at a place

module _ (d : Column) (s : List ℕ) (at : ℕ) (v : Value) (next : ℕ) (h : read_at (read_value d) s at ≡ took v next) where
  -- not PLP: in the input
  pub input-stands : (c : List ℕ) → content_as v ≡ Some c → is_plp d ≡ false → part s (at + 2) (length c) ≡ inside c
  unfolding part Short
  input-stands c has t =
      let p = took_at (read_value d) s at v next h in
      let q = short_content_lem (drop at s) v p.1 c has d t p.2 in
      let i = p.0 in
      let f = le-ltb (length s) (at + 2 + length c) (omega (arith, q.1, length-drop at s)) in
      let e : drop (at + 2) s ≡ drop 2 (drop at s) = sym (drop-drop 2 at s) in
      rw (f, e, q.0)

  -- the part of the input is handed back
  pub input_handed : (c : List ℕ) → content_as v ≡ Some c → is_plp d ≡ false → handed_back s (at + 2) (length c) ≡ c
  unfolding handed_back
  input_handed c has t = ap part_or_empty (input-stands c has t)

  -- in the input, or in a room that holds what was copied before, what this value copies, and anything
  module _ (room before after : List ℕ) (holds : room ≡ before ++ (copied_out d v ++ after)) where
    either : (c : List ℕ) → content_as v ≡ Some c → content_of v ≡ c → (b : Bool) → is_plp d ≡ b
        → part_at s room (pick b (in_room (length before) (length c)) (in_input (at + 2) (length c))) ≡ inside c
    unfolding copied_out
    either c has is true t =
        let e : copied_out d v ≡ c = rw t is in
        ap (λ (r : List ℕ). part r (length before) (length c)) (holds ∙ ap (λ (l : List ℕ). before ++ (l ++ after)) e) ∙ part-middle before c after
    either c has is false t = input-stands c has t

pub found-stands : (d : Column) (s : List ℕ) (at : ℕ) (v : Value) (next : ℕ) → read_at (read_value d) s at ≡ took v next
    → (room before after : List ℕ) → room ≡ before ++ (copied_out d v ++ after) → Stands s room (found_of d at (length before) v) v
found-stands d s at Value.null next h room before after e = tt
found-stands d s at (Value.scalar v) next h room before after e = refl
found-stands d s at (Value.binary c) next h room before after e = either d s at (Value.binary c) next h room before after e c refl refl (is_plp d) refl
found-stands d s at (Value.string c) next h room before after e = either d s at (Value.string c) next h room before after e c refl refl (is_plp d) refl

-- what was read with a room was read
pub read_fits : {X : Type 0} (copied : X → List ℕ) (size : ℕ) (r : Read X) (x : X) (next : ℕ) → fitted_read copied r size ≡ took x next → r ≡ took x next
unfolding fitted_read
read_fits copied size (took y n) x next h = (past (ltb size (length (copied y))) _ (took y n) x next h).1
read_fits copied size (stops e) x next h = h

-- a value and its room: the room after the read holds what the value copies at its front
module _ (d : Column) (s : List ℕ) (at : ℕ) (v : Value) (next : ℕ) (out : List ℕ) where
  abbrev read : Read Value
  read = fitted_read (copied_out d) (read_at (read_value d) s at) (length out)

  pub read-stands : read ≡ took v next → Stands s (room_after_read (copied_out d) read out) (found_of d at 0 v) v
  unfolding room_after_read
  read-stands h =
      let e = read_fits (copied_out d) (length out) (read_at (read_value d) s at) v next h in
      found-stands d s at v next e (room_after_read (copied_out d) read out) [] (drop (length (copied_out d v)) out) (rw h)

-- ---- a row: each column at its own place

module _ (d : Column) (ds : List Column) (s : List ℕ) (at : ℕ) (vs : List Value) (next : ℕ) where
  -- the first column, and the others behind it
  pub first_then : read_at (read_values (d ∷ ds)) s at ≡ took vs next
      → (v : Value) × (m : ℕ) × (rest : List Value) × (read_at (read_value d) s at ≡ took v m) × (read_at (read_values ds) s m ≡ took rest next)
      × (v ∷ rest ≡ vs)
  unfolding read_values
  first_then h =
      let p = took_at (read_values (d ∷ ds)) s at vs next h in
      let t = then_took (read_value d) (cons_read (read_values ds)) (drop at s) vs p.1 p.2 in
      let q = map-took (◌∷◌ t.0) (read_values ds (drop t.1 (drop at s))) vs t.2 t.4 in
      let m = at + t.1 in
      let a : read_at (read_value d) s at ≡ took t.0 m = at_took (read_value d) s at t.0 t.1 p.0 t.3 in
      let i = next_inside (read_value d) s at (stream_value d).stays t.0 m a in
      let e : read_values ds (drop m s) ≡ took q.0 t.2 = ap (read_values ds) (sym (drop-drop t.1 at s)) ∙ q.1 in
      let b = at_took (read_values ds) s m q.0 t.2 i.1 e in
      let n : m + t.2 ≡ next = omega (arith, t.5, p.3) in
      (t.0, m, q.0, a, b ∙ ap (took q.0) n, q.2)

pub row-stands : (ds : List Column) (s : List ℕ) (at : ℕ) (vs : List Value) (next : ℕ) → read_at (read_values ds) s at ≡ took vs next
    → (room before after : List ℕ) → room ≡ before ++ (copied_out_row ds vs ++ after) → AllStand s room (found_row ds s at (length before)) vs
unfolding read_values copied_out_row found_row
row-stands [] s at vs next h room before after e =
    let p = took_at (read_values []) s at vs next h in
    let q : [] ≡ vs = cc p.2 in
    rw (← q) tt
row-stands (d ∷ ds) s at vs next h room before after e =
    let p = first_then d ds s at vs next h in
    let v = p.0 in
    let rest = p.2 in
    let c = copied_out d v in
    let f : room ≡ before ++ ((c ++ copied_out_row ds rest) ++ after) = rw (← p.5) at e in
    let g : room ≡ before ++ (c ++ (copied_out_row ds rest ++ after)) = f ∙ ap (λ (l : List ℕ). before ++ l) (append_assoc c (copied_out_row ds rest) after) in
    let k : room ≡ (before ++ c) ++ (copied_out_row ds rest ++ after) = g ∙ sym (append_assoc before c (copied_out_row ds rest ++ after)) in
    let one = found-stands d s at v p.1 p.3 room before (copied_out_row ds rest ++ after) g in
    let others = row-stands ds s p.1 rest next p.4 room (before ++ c) after k in
    rw (← p.5, p.3) (one, rw (length-append before c) at others)

-- the whole row and its room
module _ (ds : List Column) (s : List ℕ) (at : ℕ) (vs : List Value) (next : ℕ) (out : List ℕ) where
  abbrev read_out : Read (List Value)
  read_out = fitted_read (copied_out_row ds) (read_at (read_row ds) s at) (length out)

  pub columns : read_at (read_row ds) s at ≡ took vs next → read_at (read_values ds) s at ≡ took vs next
  unfolding read_row
  columns h =
      let p = took_at (read_row ds) s at vs next h in
      let q = past (ltb max_columns (length ds)) rule (read_values ds (drop at s)) vs p.1 p.2 in
      at_took (read_values ds) s at vs p.1 p.0 q.1 ∙ ap (took vs) p.3

  pub read_row-stands : read_out ≡ took vs next → AllStand s (room_after_read (copied_out_row ds) read_out out) (found_row ds s at 0) vs
  unfolding room_after_read
  read_row-stands h =
      let e = columns (read_fits (copied_out_row ds) (length out) (read_at (read_row ds) s at) vs next h) in
      row-stands ds s at vs next e (room_after_read (copied_out_row ds) read_out out) [] (drop (length (copied_out_row ds vs)) out) (rw h)

-- ---- with more bytes behind the input: what was found is found where it was, unless bytes are missing

module _ (s more : List ℕ) where
  found_next_lem : (d : Column) (ds : List Column) (at copied : ℕ) → ((next k : ℕ) → (read_at (read_values ds) s next ≡ stops missing → ⊥)
      → found_row ds (s ++ more) next k ≡ found_row ds s next k)
      → (read_at (read_values (d ∷ ds)) s at ≡ stops missing → ⊥) → (r : Read Value) → read_at (read_value d) s at ≡ r
      → found_next d at copied (found_row ds (s ++ more)) r ≡ found_next d at copied (found_row ds s) r
  unfolding read_values
  found_next_lem d ds at copied ih h (took v next) e =
      let t = at_then (read_value d) (cons_read (read_values ds)) s at (stream_value d).stays v next e in
      let g = ih next (copied + length (copied_out d v)) (λ z. h (t ∙ at_map-stops (◌∷◌ v) (read_values ds) s next missing z)) in
      ap (◌∷◌ (found_of d at copied v)) g
  found_next_lem d ds at copied ih h (stops r) e = refl

  first-missing : (d : Column) (ds : List Column) (at : ℕ) → read_at (read_value d) s at ≡ stops missing → read_at (read_values (d ∷ ds)) s at ≡ stops missing
  unfolding read_values
  first-missing d ds at e = at_then_stops (read_value d) (cons_read (read_values ds)) s at missing e

  pub found_steady : (ds : List Column) (at copied : ℕ) → (read_at (read_values ds) s at ≡ stops missing → ⊥)
      → found_row ds (s ++ more) at copied ≡ found_row ds s at copied
  unfolding found_row
  found_steady [] at copied h = refl
  found_steady (d ∷ ds) at copied h =
      let e = steady_at (read_value d) at (stream_value d).steady s more (λ z. h (first-missing d ds at z)) in
      ap (found_next d at copied (found_row ds (s ++ more))) e
      ∙ found_next_lem d ds at copied (found_steady ds) h (read_at (read_value d) s at) refl
