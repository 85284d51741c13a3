-- The values of a row, turn by turn: the list holds the first values' numbers and the room the first bytes of what the row copies out, and what is left of the
-- columns gives the others.
-- Why it holds: the row was judged, so that each value stands at its place; each turn puts three numbers behind those that stand, and those are the next
-- three, and so with the bytes of the room.
-- Assumes nothing.
use mathlib.Core.Path.{◌≡◌, refl, sym, ap, ◌∙◌}
use mathlib.Core.List.{List, [], ◌∷◌, ◌++◌}
use Prim.Native.Nat.{ℕ, ◌+◌, ◌*◌, ◌<◌, ◌≤◌, zero-le}
use native.Mathlib.Omega.{arith}
use lib.ListN.{length, get_or, drop, length-append, length-drop, length-map}
use Rattle.lists.specs.Put.{front}
use Rattle.lists.proofs.Front.{front_none, front_all, front-end, grown}
use Rattle.format.specs.Answer.{Read, took, stops, read_at, room_after_read}
use Rattle.format.specs.Descriptor as D
use Rattle.format.specs.Scalar.{Scalar}
use Rattle.format.specs.Value.{Value, read_value, copied_out}
use Rattle.format.specs.Row.{read_values, copied_out_row}
use Rattle.format.specs.Found as F
use Rattle.format.specs.Found.{found_row}
use Rattle.format.proofs.Place.{took_at}
use Rattle.format.proofs.Found.{first_then}
use Rattle.column_type.specs.declared.Column.{Column}
use Rattle.column_type.specs.Told.{column_told}
use Rattle.columns.specs.None.{no_column}
use Rattle.columns.specs.Told.{columns_told}
use Rattle.columns.proofs.Taken.{left_at, none_left}
use Rattle.read_step.specs.Told.{Place, first_place}
use Rattle.read_step.specs.Steps.{FitsAt}
use Rattle.packed_slot.specs.Slots.{scalar_slot, content_slot, slot_of, slots_of}
use Rattle.packed_slots.specs.Steps.{Taken, Readable}

-- ---- three numbers each

three_scalar : (v : Scalar) → length (scalar_slot v) ≡ 3
three_scalar (Scalar.bit b) = refl
three_scalar (Scalar.u8 n) = refl
three_scalar (Scalar.i16 z) = refl
three_scalar (Scalar.i32 z) = refl
three_scalar (Scalar.i64 z) = refl
three_scalar (Scalar.f32 n) = refl
three_scalar (Scalar.f64 n) = refl
three_scalar (Scalar.guid g) = refl

three_content : (p : F.Stand) (row room : ℕ) → length (content_slot p row room) ≡ 3
three_content (F.in_input start count) row room = refl
three_content (F.in_room start count) row room = refl

three : (f : F.Found) → length (slot_of f) ≡ 3
three F.Found.null = refl
three (F.Found.scalar v) = three_scalar v
three (F.Found.binary p) = three_content p 9 11
three (F.Found.string p) = three_content p 10 12

-- ---- one column

module _ (d : D.Column) (s : List ℕ) (at copied : ℕ) (v : Value) (m : ℕ) (e : read_at (read_value d) s at ≡ took v m) where
  -- what is found of it and of those behind it
  found_more : (ds : List D.Column)
      → slots_of (found_row (d ∷ ds) s at copied) ≡ slot_of (F.found_of d at copied v) ++ slots_of (found_row ds s m (copied + length (copied_out d v)))
  unfolding found_row
  found_more ds = rw e

-- as many values as columns
all_counted : (ds : List D.Column) (s : List ℕ) (at copied : ℕ) (vs : List Value) (next : ℕ) → read_at (read_values ds) s at ≡ took vs next
    → length (slots_of (found_row ds s at copied)) ≡ 3 * length ds
unfolding found_row
all_counted [] s at copied vs next h = refl
all_counted (d ∷ ds) s at copied vs next h =
    let t = first_then d ds s at vs next h in
    let f = F.found_of d at copied t.0 in
    let rest = found_row ds s t.1 (copied + length (copied_out d t.0)) in
    let n = all_counted ds s t.1 (copied + length (copied_out d t.0)) t.2 next t.4 in
    rw t.3 (omega (arith, length-append (slot_of f) (slots_of rest), three f, n))

-- ---- the turns

-- what a row copies out
abbrev pub row_copied : List D.Column → Read (List Value) → List ℕ
row_copied cs (took vs next) = copied_out_row cs vs
row_copied cs (stops e) = []

module _ (ys : List Column) (s : List ℕ) (from : ℕ) (values₀ out₀ : List ℕ) where
  abbrev pub cs : List D.Column
  cs = columns_told [] ys

  abbrev left : ℕ → List D.Column
  left i = columns_told [] (drop i ys)

  -- the numbers of all values, and what all copy out
  abbrev pub all : List ℕ
  all = slots_of (found_row cs s from 0)

  abbrev pub joined : List ℕ
  joined = row_copied cs (read_at (read_values cs) s from)

  -- what is known at a turn
  pub record Slotted (i : ℕ) (p : Place) (vs bs : List ℕ) : Type 0 where
    pub rest : List Value
    pub next : ℕ
    pub reads : read_at (read_values (left i)) s p.at ≡ took rest next
    -- of the list
    pub counted : length all ≡ 3 * length ys
    pub room : length all ≤ length values₀
    pub upto : 3 * i ≤ length all
    pub same : length vs ≡ length values₀
    pub holds : vs ≡ front all (3 * i) values₀
    pub behind : drop (3 * i) all ≡ slots_of (found_row (left i) s p.at p.copied)
    -- of the room
    pub fits : length joined ≤ length out₀
    pub copied_upto : p.copied ≤ length joined
    pub copied_same : length bs ≡ length out₀
    pub copied_holds : bs ≡ front joined p.copied out₀
    pub copies : copied_out_row (left i) rest ≡ drop p.copied joined

  begins : (r : Read (List Value)) → read_at (read_values cs) s from ≡ r → Readable (length out₀) cs r → 3 * length ys ≤ length values₀
      → Slotted 0 (first_place from) values₀ out₀
  begins (took vs next) e h l =
      let n = all_counted cs s from 0 vs next e ∙ ap (λ (k : ℕ). 3 * k) (length-map ys (column_told [])) in
      let j : joined ≡ copied_out_row cs vs = ap (row_copied cs) e in
      record {
        rest = vs;
        next = next;
        reads = e;
        counted = n;
        room = omega (arith, n, l);
        upto = zero-le;
        same = refl;
        holds = front_none all values₀;
        behind = refl;
        fits = rw j h;
        copied_upto = zero-le;
        copied_same = refl;
        copied_holds = front_none joined out₀;
        copies = sym j;
      }
  begins (stops x) e h l = absurd h

  pub slotting_begins : Readable (length out₀) cs (read_at (read_values cs) s from) → 3 * length ys ≤ length values₀ → Slotted 0 (first_place from) values₀ out₀
  slotting_begins h l = begins (read_at (read_values cs) s from) refl h l

  -- ---- one turn

  module _ (i : ℕ) (p : Place) (vs bs : List ℕ) (d : D.Column) (l : i < length ys) (z : Slotted i p vs bs) (e : d ≡ column_told [] (get_or ys i no_column))
    where
      abbrev ds : List D.Column
      ds = left (i + 1)

      is : left i ≡ d ∷ ds
      is = ap (columns_told []) (left_at no_column i ys l) ∙ ap (λ (x : D.Column). x ∷ ds) (sym e)

      -- the value, and what the others copy behind it
      record Next : Type 0 where
        pub value : Value
        pub behind : ℕ
        pub others : List Value
        pub read : read_at (read_value d) s p.at ≡ took value behind
        pub reads : read_at (read_values ds) s behind ≡ took others z.next
        pub copies : drop p.copied joined ≡ copied_out d value ++ copied_out_row ds others

      one : Next
      unfolding copied_out_row
      one =
          let r : read_at (read_values (d ∷ ds)) s p.at ≡ took z.rest z.next = rw is at z.reads in
          let c : copied_out_row (d ∷ ds) z.rest ≡ drop p.copied joined = rw is at z.copies in
          let t = first_then d ds s p.at z.rest z.next r in
          record {
            value = t.0;
            behind = t.1;
            others = t.2;
            read = t.3;
            reads = t.4;
            copies = sym c ∙ ap (copied_out_row (d ∷ ds)) (sym t.5);
          }

      -- there is place for its numbers and for its content
      pub place_for : 3 * i + 3 ≤ length vs
      place_for = omega (arith, l, z.counted, z.room, z.same)

      long : p.copied + length (copied_out d one.value) ≤ length joined
      long =
          let t = ap length one.copies ∙ length-append (copied_out d one.value) (copied_out_row ds one.others) in
          omega (arith, t, length-drop p.copied joined, z.copied_upto)

      pub room_for : FitsAt d (read_at (read_value d) s p.at) p.copied (length bs)
      room_for =
          let m : p.copied + length (copied_out d one.value) ≤ length bs = omega (arith, long, z.copied_same, z.fits) in
          rw one.read m

      pub inside : p.at ≤ length s
      inside = (took_at (read_value d) s p.at one.value one.behind one.read).0

      -- one value more
      pub slotting_next : (q : Place) (vs' bs' : List ℕ) → Taken d (read_at (read_value d) s p.at) p (3 * i) vs bs vs' bs' q → Slotted (i + 1) q vs' bs'
      slotting_next q vs' bs' taken =
          let v = one.value in
          let m = one.behind in
          let found = F.found_of d p.at p.copied v in
          let c = copied_out d v in
          let others = copied_out_row ds one.others in
          let rest = slots_of (found_row ds s m (p.copied + length c)) in
          let w = rw one.read at taken in
          let b : drop (3 * i) all ≡ slots_of (found_row (d ∷ ds) s p.at p.copied) = rw is at z.behind in
          let grew = grown all vs values₀ (slot_of found) rest vs' (3 * i) 3 (three found) z.upto z.room z.same z.holds
          (b ∙ found_more d s p.at p.copied v m one.read ds) w.0 in
          let more = grown joined bs out₀ c others bs' p.copied (length c) refl z.copied_upto z.fits z.copied_same z.copied_holds
          one.copies w.1 in
          let three_more : 3 * i + 3 ≡ 3 * (i + 1) = omega arith in
          rw w.2 (record {
            rest = one.others;
            next = z.next;
            reads = one.reads;
            counted = z.counted;
            room = z.room;
            upto = omega (arith, grew.room);
            same = grew.same;
            holds = grew.holds ∙ ap (λ (n : ℕ). front all n values₀) three_more;
            behind = ap (λ (n : ℕ). drop n all) (sym three_more) ∙ grew.left;
            fits = z.fits;
            copied_upto = more.room;
            copied_same = more.same;
            copied_holds = more.holds;
            copies = sym more.left;
          })

  -- ---- behind the last turn

  module _ (p : Place) (vs bs : List ℕ) (z : Slotted (length ys) p vs bs) where
    pub slotting_ends : vs ≡ all ++ drop (3 * length ys) values₀
    slotting_ends = z.holds ∙ (front_all all (3 * length ys) values₀ (sym z.counted) ∙ ap (λ (n : ℕ). all ++ drop n values₀) z.counted)

    all_copied : bs ≡ joined ++ drop (length joined) out₀
    unfolding copied_out_row
    all_copied =
        let o : left (length ys) ≡ [] = rw (none_left ys) in
        let m : [] ≡ drop p.copied joined = rw o at z.copies in
        z.copied_holds ∙ front-end joined p.copied out₀ z.copied_upto (sym m)

    pub joining_ends : Readable (length out₀) cs (read_at (read_values cs) s from) → bs ≡ room_after_read (copied_out_row cs)
        (read_at (read_values cs) s from) out₀
    unfolding room_after_read
    joining_ends h = go (read_at (read_values cs) s from) h all_copied
      where
        go : (r : Read (List Value)) → Readable (length out₀) cs r → bs ≡ row_copied cs r ++ drop (length (row_copied cs r)) out₀
            → bs ≡ room_after_read (copied_out_row cs) r out₀
        go (took ws n) k f = f
        go (stops x) k f = absurd k
