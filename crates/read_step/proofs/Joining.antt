-- The second pass of reading a row, turn by turn: the room holds the first bytes of what the row copies out, and what is left of the columns copies the others.
-- Why it holds: the row was judged and its content is known to fit before the first turn; each turn puts one value's content behind what stands, and those are
-- the next bytes. Where nothing is copied out there is nothing to do: the room is as it was, and so it is at a refusal.
-- Assumes nothing.
use mathlib.Core.Path.{◌≡◌, refl, sym, ap, ◌∙◌}
use mathlib.Core.List.{List, [], ◌∷◌, ◌++◌}
use Prim.Native.Nat.{ℕ, ◌+◌, ◌<◌, ◌≤◌, zero-le}
use native.Mathlib.Omega.{arith}
use lib.ListN.{length, get_or, drop, length-append, length-drop}
use lib.Dec.{ltb}
use borrow.Author.Tests.{ltb-false, le-ltb, lt-ltb}
use Rattle.lists.specs.Put.{put_at, front}
use Rattle.lists.proofs.Front.{front_none, front_all, front-end, grown}
use Rattle.lists.proofs.Split.{clash}
use Rattle.format.specs.Answer.{Refusal, room, Read, took, stops, map_read, read_at, fitted_read, room_after_read}
use Rattle.format.specs.Descriptor as D
use Rattle.format.specs.Value.{Value, read_value, copied_out}
use Rattle.format.specs.Row.{read_values, read_row, copied_out_row}
use Rattle.format.proofs.Place.{past}
use Rattle.format.proofs.Found.{read_fits, columns, first_then}
use Rattle.column_type.specs.declared.Column.{Column}
use Rattle.column_type.specs.Told.{column_told}
use Rattle.columns.specs.None.{no_column}
use Rattle.columns.specs.Told.{columns_told}
use Rattle.columns.proofs.Taken.{left_at, none_left}
use Rattle.value_weigh.specs.Told.{Needs}
use Rattle.judge_step.specs.Told.{needs_of}
use Rattle.read_step.specs.Told.{Place, first_place}
use Rattle.read_step.specs.Steps.{copied_in, place_behind, FitsAt}

-- ---- answers

-- what fits is not longer than the room
pub within : (cs : List D.Column) (size : ℕ) (r : Read (List Value)) (vs : List Value) (next : ℕ) → fitted_read (copied_out_row cs) r size ≡ took vs next
    → length (copied_out_row cs vs) ≤ size
unfolding fitted_read
within cs size (took ws n) vs next h =
    let p = past (ltb size (length (copied_out_row cs ws))) room (took ws n) vs next h in
    let e : ws ≡ vs = cc p.1 in
    rw (← e) (ltb-false size (length (copied_out_row cs ws)) p.0)
within cs size (stops e) vs next h = clash cc

module _ (ys : List Column) (s : List ℕ) (from : ℕ) (out₀ : List ℕ) where
  abbrev pub n : ℕ
  n = length ys

  -- what is read, the columns' names parts of any buffer
  abbrev pub answer : List ℕ → Read (List Value)
  answer b = fitted_read (copied_out_row (columns_told b ys)) (read_at (read_row (columns_told b ys)) s from) (length out₀)

  -- what the call answers of it: the first place, and where the row ends
  abbrev pub told : List ℕ → Read Place
  told b = map_read (λ (vs : List Value). first_place from) (answer b)

  -- the row, by what was judged of it
  abbrev needed : List ℕ → Read Needs
  needed b = map_read (needs_of (columns_told b ys)) (read_at (read_row (columns_told b ys)) s from)

  -- a row that was judged, and fits the room, is read
  pub record Read_in (m : Needs) (next : ℕ) (b : List ℕ) : Type 0 where
    pub values : List Value
    pub is : answer b ≡ took values next
    pub count : length (copied_out_row (columns_told b ys) values) ≡ m.joined

  pub joining_fits : (b : List ℕ) (m : Needs) (next : ℕ) → took m next ≡ needed b → m.joined ≤ length out₀ → Read_in m next b
  unfolding fitted_read
  joining_fits b m next h l = go (read_at (read_row (columns_told b ys)) s from) refl
    where
      go : (r : Read (List Value)) → read_at (read_row (columns_told b ys)) s from ≡ r → Read_in m next b
      go (took vs k) e =
          let w : took m next ≡ took (needs_of (columns_told b ys) vs) k = rw e at h in
          let n : m ≡ needs_of (columns_told b ys) vs = cc in
          let j : length (copied_out_row (columns_told b ys) vs) ≡ m.joined = ap (λ (x : Needs). x.joined) (sym n) in
          let i : next ≡ k = cc in
          record { values = vs; is = rw (e, le-ltb (length out₀) (length (copied_out_row (columns_told b ys) vs)) (omega (arith, j, l)), i); count = j }
      go (stops x) e = clash (cc (rw e at h))

  -- a refusal leaves the room as it was
  pub record Refused_in (e : Refusal) (b : List ℕ) : Type 0 where
    pub told : stops e ≡ told b
    pub room : out₀ ≡ room_after_read (copied_out_row (columns_told b ys)) (answer b) out₀

  refused : (e : Refusal) (b : List ℕ) → answer b ≡ stops e → Refused_in e b
  unfolding room_after_read
  refused e b h = record { told = rw h refl; room = rw h refl }

  pub joining_long : (b : List ℕ) (m : Needs) (next : ℕ) → took m next ≡ needed b → length out₀ < m.joined → Refused_in room b
  unfolding fitted_read
  joining_long b m next h l = go (read_at (read_row (columns_told b ys)) s from) refl
    where
      go : (r : Read (List Value)) → read_at (read_row (columns_told b ys)) s from ≡ r → Refused_in room b
      go (took vs k) e =
          let w : took m next ≡ took (needs_of (columns_told b ys) vs) k = rw e at h in
          let n : m ≡ needs_of (columns_told b ys) vs = cc in
          let j : length (copied_out_row (columns_told b ys) vs) ≡ m.joined = ap (λ (x : Needs). x.joined) (sym n) in
          refused room b (rw (e, lt-ltb (length out₀) (length (copied_out_row (columns_told b ys) vs)) (omega (arith, j, l))))
      go (stops x) e = clash (cc (rw e at h))

  pub joining_refused : (b : List ℕ) (e : Refusal) → stops e ≡ needed b → Refused_in e b
  unfolding fitted_read
  joining_refused b x h = go (read_at (read_row (columns_told b ys)) s from) refl
    where
      go : (r : Read (List Value)) → read_at (read_row (columns_told b ys)) s from ≡ r → Refused_in x b
      go (took vs k) e = clash (cc (rw e at h))
      go (stops y) e =
          let i : x ≡ y = cc (rw e at h) in
          refused x b (rw (e, i))

  -- ---- the turns

  -- what is left of the columns at a turn
  abbrev left : List ℕ → ℕ → List D.Column
  left b i = columns_told b (drop i ys)

  -- what is known at a turn of a row that was read
  pub record Copied (b : List ℕ) (vs : List Value) (next i : ℕ) (p : Place) (bs : List ℕ) : Type 0 where
    pub upto : p.copied ≤ length (copied_out_row (columns_told b ys) vs)
    pub same : length bs ≡ length out₀
    pub holds : bs ≡ front (copied_out_row (columns_told b ys) vs) p.copied out₀
    pub rest : List Value
    pub reads : read_at (read_values (left b i)) s p.at ≡ took rest next
    pub copies : copied_out_row (left b i) rest ≡ drop p.copied (copied_out_row (columns_told b ys) vs)

  pub joining_begins : (b : List ℕ) (vs : List Value) (next : ℕ) → answer b ≡ took vs next → Copied b vs next 0 (first_place from) out₀
  joining_begins b vs next h =
      let cs = columns_told b ys in
      let r = read_fits (copied_out_row cs) (length out₀) (read_at (read_row cs) s from) vs next h in
      record {
        upto = zero-le;
        same = refl;
        holds = front_none (copied_out_row cs vs) out₀;
        rest = vs;
        reads = columns cs s from vs next out₀ r;
        copies = refl;
      }

  -- ---- one turn

  module _ (b : List ℕ) (vs : List Value) (next i : ℕ) (p : Place) (bs : List ℕ) (l : i < n) (z : Copied b vs next i p bs) (h : answer b ≡ took vs next) where
    abbrev d : D.Column
    d = column_told b (get_or ys i no_column)

    abbrev j : List ℕ
    j = copied_out_row (columns_told b ys) vs

    -- the value, and what the others copy behind it
    record Next : Type 0 where
      pub value : Value
      pub behind : ℕ
      pub others : List Value
      pub read : read_at (read_value d) s p.at ≡ took value behind
      pub reads : read_at (read_values (left b (i + 1))) s behind ≡ took others next
      pub copies : drop p.copied j ≡ copied_out d value ++ copied_out_row (left b (i + 1)) others

    one : Next
    unfolding copied_out_row
    one =
        let e : left b i ≡ d ∷ left b (i + 1) = rw (left_at no_column i ys l) in
        let r : read_at (read_values (d ∷ left b (i + 1))) s p.at ≡ took z.rest next = rw e at z.reads in
        let c : copied_out_row (d ∷ left b (i + 1)) z.rest ≡ drop p.copied j = rw e at z.copies in
        let t = first_then d (left b (i + 1)) s p.at z.rest next r in
        record {
          value = t.0;
          behind = t.1;
          others = t.2;
          read = t.3;
          reads = t.4;
          copies = sym c ∙ ap (copied_out_row (d ∷ left b (i + 1))) (sym t.5);
        }

    long : p.copied + length (copied_out d one.value) ≤ length j
    long =
        let t = ap length one.copies ∙ length-append (copied_out d one.value) (copied_out_row (left b (i + 1)) one.others) in
        omega (arith, t, length-drop p.copied j, z.upto)

    turn_asks : FitsAt d (read_at (read_value d) s p.at) p.copied (length bs)
    turn_asks =
        let w = within (columns_told b ys) (length out₀) (read_at (read_row (columns_told b ys)) s from) vs next h in
        let m : p.copied + length (copied_out d one.value) ≤ length bs = omega (arith, long, z.same, w) in
        rw one.read m

    turn_goes : Copied b vs next (i + 1) (place_behind d (read_at (read_value d) s p.at) p) (put_at bs p.copied (copied_in d (read_at (read_value d) s p.at)))
    turn_goes =
        let w = within (columns_told b ys) (length out₀) (read_at (read_row (columns_told b ys)) s from) vs next h in
        let c = copied_out d one.value in
        let others = copied_out_row (left b (i + 1)) one.others in
        let g = grown j bs out₀ c others _ p.copied (length c) refl z.upto w z.same z.holds one.copies refl in
        rw one.read (record {
          upto = g.room;
          same = g.same;
          holds = g.holds;
          rest = one.others;
          reads = one.reads;
          copies = sym g.left;
        })

  -- what a step is given and what it answers
  module _ (i : ℕ) (p : Place) (bs : List ℕ) (l : i < n) (c : Column) (at : c ≡ get_or ys i no_column) where
    pub joining_asks : (b : List ℕ) (vs : List Value) (next : ℕ) → answer b ≡ took vs next → Copied b vs next i p bs
        → FitsAt (column_told b c) (read_at (read_value (column_told b c)) s p.at) p.copied (length bs)
    joining_asks b vs next h z = rw at (turn_asks b vs next i p bs l z h)

    pub joining_next : (b : List ℕ) (vs : List Value) (next : ℕ) → answer b ≡ took vs next → Copied b vs next i p bs → (q : Place) (after : List ℕ)
        → (q ≡ place_behind (column_told b c) (read_at (read_value (column_told b c)) s p.at) p)
        × (after ≡ put_at bs p.copied (copied_in (column_told b c) (read_at (read_value (column_told b c)) s p.at)))
        → Copied b vs next (i + 1) q after
    joining_next b vs next h z q after g = rw (g.0, g.1, at) (turn_goes b vs next i p bs l z h)

  -- behind the last turn
  pub joining_ends : (b : List ℕ) (vs : List Value) (next : ℕ) → answer b ≡ took vs next → (p : Place) (bs : List ℕ) → Copied b vs next n p bs
      → bs ≡ room_after_read (copied_out_row (columns_told b ys)) (answer b) out₀
  unfolding room_after_read copied_out_row
  joining_ends b vs next h p bs z =
      let o : left b n ≡ [] = rw (none_left ys) in
      let m : [] ≡ drop p.copied (copied_out_row (columns_told b ys) vs) = rw o at z.copies in
      rw h (z.holds ∙ front-end (copied_out_row (columns_told b ys) vs) p.copied out₀ z.upto (sym m))

  -- a row that copies nothing out leaves the room as it was
  pub joining_none : (b : List ℕ) (vs : List Value) (next : ℕ) → answer b ≡ took vs next → length (copied_out_row (columns_told b ys) vs) ≡ 0
      → out₀ ≡ room_after_read (copied_out_row (columns_told b ys)) (answer b) out₀
  unfolding room_after_read
  joining_none b vs next h e =
      let j = copied_out_row (columns_told b ys) vs in
      rw h (front_none j out₀ ∙ front_all j 0 out₀ (sym e))
