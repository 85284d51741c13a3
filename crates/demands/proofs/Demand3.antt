-- Demand 3 of the code, in words of the calls that a user makes: `read_row` with `RowPlace::value`, and `normal_row`.
--
-- A call is known here by what was passed, what it answered and what its room held afterwards; that these keep the call's contract, whatever the call did, is
-- `ReadsRow` and `NormalisesRow`. For every list of columns, every input of bytes and every place in it where a row was accepted:
--   Holds cols s at vs next       `read_row` answered with a row that ends at next; the values that `value` then takes, column by column, are never refused,
--                                 and are of the kinds of vs, their contents, in the input or in the room, those of vs
--   Form cols s at form next      `normal_row` answered with a row that ends at next and a count; the room's first so many bytes are form
-- the theorems say:
--   same    two forms are the same bytes exactly when both rows hold the same kind and content in every column
--   back    the form, followed by any bytes, is read as the same row and ends where it ends, by every call with room for what it copies out
--   own     it is its own normal form, by every call with room for it
--   short   it is never longer than the row
--   ends    both calls end the row at the same place
-- A value is its kind and content: a float its bits, a string its UTF-16LE bytes. More than 1,024 columns are refused, so they hold nothing and have no form.
-- The sentence on descriptors is `again` below: a descriptor that was read, written again, is the bytes consumed, save Xml with a marker other than 0 or 1.
--
-- Why it holds: the contracts are equations with the definitions, of which `format/proofs/Normal.normal-form` says all this.
-- Assumes nothing.
use Rattle.std.specs.Prelude.{Err, Ok, Result}
use mathlib.Core.Path.{◌≡◌, sym, ap, ◌∙◌, subst}
use mathlib.Core.Logic.{◌↔◌}
use mathlib.Core.Bool.{false}
use mathlib.Core.List.{List, [], ◌++◌}
use Prim.Native.Nat.{ℕ, ◌+◌, ◌-◌, ◌≤◌, zero-le}
use native.Mathlib.Nat.{zero-add}
use native.Mathlib.Omega.{arith}
use lib.Dec.{ltb}
use lib.ListN.{length, take, drop}
use lib.Seq.{take-append_seam, length-take-le}
use borrow.Author.Tests.{le-ltb}
use Rattle.lists.proofs.Split.{clash}
use Rattle.format.specs.Answer.{Answer, gives, Read, took, map_read, read_at, fitted, wrote, room_after, fitted_read, room_after_read}
use Rattle.format.specs.Descriptor as D
use Rattle.format.specs.Descriptor.{write_column}
use Rattle.format.specs.Value.{Value}
use Rattle.format.specs.Row.{read_row, copied_out_row}
use Rattle.format.specs.Normal.{encode_row, normal}
use Rattle.format.proofs.Number.{Bytes}
use Rattle.format.proofs.Plain.{bytes_drop}
use Rattle.format.proofs.Place.{took_at, map-took, at_took}
use Rattle.format.proofs.Found.{read_fits}
use Rattle.format.proofs.MoreReaders.{stream_column}
use Rattle.format.proofs.Descriptor.{odd_marker}
use Rattle.format.proofs.Normal.{NormalForm, normal-form, normal-took}
use Rattle.column_type.specs.declared.Column.{Column}
use Rattle.column_type.specs.Told.{column_told}
use Rattle.column_type.proofs.RoundTrip.{read-written}
use Rattle.columns.specs.Told.{columns_told}
use Rattle.cursor.specs.declared.Cursor.{Cursor}
use Rattle.cursor.specs.Told.{column_read_told}
use Rattle.wire.proofs.Decided.{Writes}
use Rattle.row_place.specs.declared.RowPlace.{RowPlace}
use Rattle.row_place.specs.Told.{most_room}
use Rattle.read_step.specs.Told.{first_place, place_told}
use Rattle.row_read.proofs.Decided.{ReadsRow, read_out}
use Rattle.row_read.proofs.Accepted.{accepted}
use Rattle.row_normal.proofs.Decided.{NormalisesRow, normal_of}
use Rattle.wire.specs.declared.Refusal.{Refusal}

-- ---- the calls

-- a call of `read_row` that answered with a row, and the values that are taken of it
pub record Holds (cols : List Column) (s : List ℕ) (at : ℕ) (vs : List Value) (next : ℕ) : Type 0 where
  pub out : List ℕ
  pub after : List ℕ
  pub place : RowPlace
  pub room : length out ≤ most_room
  pub call : ReadsRow cols s at out (Ok (place, (record { at = next }))) after
  pub values : (accepted cols s at out place (record { at = next }) after room call []).values ≡ vs

-- a call of `normal_row` that answered with a row, and its normal form
pub record Form (cols : List Column) (s : List ℕ) (at : ℕ) (form : List ℕ) (next : ℕ) : Type 0 where
  pub out : List ℕ
  pub after : List ℕ
  pub count : ℕ
  pub call : NormalisesRow cols s at out (Ok (count, (record { at = next }))) after
  pub is : take count after ≡ form

-- ---- what the definitions say of an answered call

-- what stands at the front of a room behind bytes of a count
front : (count : ℕ) (bytes after out : List ℕ) → length bytes ≡ count → after ≡ bytes ++ drop (length bytes) out → take count after ≡ bytes
front count bytes after out l e =
    ap (λ (n : ℕ). take n after) (sym l) ∙ (ap (take (length bytes)) e ∙ take-append_seam bytes (drop (length bytes) out))

module _ (cols : List Column) (s : List ℕ) (at : ℕ) where
  abbrev cs : List D.Column
  cs = columns_told [] cols

  -- the row that the input holds from the place on
  record Row (vs : List Value) (next : ℕ) : Type 0 where
    pub took-bytes : ℕ
    pub inside : at ≤ length s
    pub reads : read_row cs (drop at s) ≡ took vs took-bytes
    pub ends : at + took-bytes ≡ next

  holds_row : (vs : List Value) (next : ℕ) → Holds cols s at vs next → Row vs next
  holds_row vs next h =
      let a = accepted cols s at h.out h.place (record { at = next }) h.after h.room h.call [] in
      let r : read_at (read_row cs) s at ≡ took vs next = subst (λ (ws : List Value). read_at (read_row cs) s at ≡ took ws next) h.values a.reads in
      let t = took_at (read_row cs) s at vs next r in
      record { took-bytes = t.1; inside = t.0; reads = t.2; ends = t.3 }

  record Formed (form : List ℕ) (next : ℕ) : Type 0 where
    pub values : List Value
    pub row : Row values next
    pub encoded : encode_row cs values ≡ form

  form-row : (form : List ℕ) (next : ℕ) → Form cols s at form next → Formed form next
  unfolding room_after_read
  form-row form next f =
      let whole : List ℕ → List ℕ = λ bytes. bytes in
      let size = length f.out in
      let m = map-took length (normal_of [] cols s at size) f.count next (sym (f.call.answer [])) in
      let bytes = m.0 in
      let r = read_fits whole size (read_at (normal cs) s at) bytes next m.1 in
      let t = took_at (normal cs) s at bytes next r in
      let v = normal-took cs (drop at s) bytes t.1 t.2 in
      let room : f.after ≡ bytes ++ drop (length bytes) f.out =
      f.call.room [] ∙ ap (λ (q : Read (List ℕ)). room_after_read whole q f.out) m.1 in
      record {
        values = v.0;
        row = record { took-bytes = t.1; inside = t.0; reads = v.1; ends = t.3 };
        encoded = v.2 ∙ (sym (front f.count bytes f.after f.out m.2 room) ∙ f.is);
      }

  -- an input holds one row at a place
  one_row : (vs ws : List Value) (m n : ℕ) → Row vs m → Row ws n → (vs ≡ ws) × (m ≡ n)
  one_row vs ws m n x y =
      let e : took vs x.took-bytes ≡ took ws y.took-bytes = sym x.reads ∙ y.reads in
      let p : vs ≡ ws = cc e in
      let q : x.took-bytes ≡ y.took-bytes = cc e in
      (p, sym x.ends ∙ (ap (◌+◌ at) q ∙ y.ends))

  -- the form of the row that it holds
  module _ (b : Bytes s) (vs : List Value) (form : List ℕ) (m n : ℕ) (h : Holds cols s at vs m) (f : Form cols s at form n) where
    held : Row vs m
    held = holds_row vs m h

    known : NormalForm cs (drop at s) vs held.took-bytes
    known = normal-form cs (drop at s) vs held.took-bytes (bytes_drop at s b) held.reads

    both : (vs ≡ (form-row form n f).values) × (m ≡ n)
    both = one_row vs (form-row form n f).values m n held (form-row form n f).row

    of_values : encode_row cs vs ≡ form
    of_values = ap (encode_row cs) both.0 ∙ (form-row form n f).encoded

    pub ends : m ≡ n
    ends = both.1

    pub short : length form ≤ n - at
    short =
        let l : length (encode_row cs vs) ≤ held.took-bytes = known.short in
        let e = held.ends in
        let q = both.1 in
        subst (λ (bytes : List ℕ). length bytes ≤ n - at) of_values (omega (arith, l, e, q))

    module _ (rest : List ℕ) where
      abbrev onward : List ℕ
      onward = form ++ rest

      reads_again : read_at (read_row cs) onward 0 ≡ took vs (length form)
      reads_again =
          at_took (read_row cs) onward 0 vs (length form) zero-le
          (subst (λ (bytes : List ℕ). read_row cs (bytes ++ rest) ≡ took vs (length bytes)) of_values (known.reads rest))
          ∙ ap (took vs) (zero-add (length form))

      fitting : (out : List ℕ) → length (copied_out_row cs vs) ≤ length out → read_out cols onward 0 out [] ≡ took vs (length form)
      unfolding fitted_read
      fitting out l =
          ap (λ (q : Read (List Value)). fitted_read (copied_out_row cs) q (length out)) reads_again
          ∙ rw (le-ltb (length out) (length (copied_out_row cs vs)) l)

      -- `read_row` on the form, with room for what it copies out: the same values, and it ends where the form ends
      pub back : (out : List ℕ) (r : Result (RowPlace × Cursor) Refusal) (after : List ℕ) → length out ≤ most_room →
          length (copied_out_row cs vs) ≤ length out →
          ReadsRow cols onward 0 out r after → Holds cols onward 0 vs (length form)
      back out (Ok (p, next)) after room l c =
          let e : took (place_told p) next.at ≡ took (first_place 0) (length form) =
          c.told [] ∙ ap (map_read (λ (ws : List Value). first_place 0)) (fitting out l) in
          let n : next.at ≡ length form = cc e in
          let call = subst (λ (k : ℕ). ReadsRow cols onward 0 out (Ok (p, (record { at = k }))) after) n c in
          let a = accepted cols onward 0 out p (record { at = length form }) after room call [] in
          let v : took a.values (length form) ≡ took vs (length form) = sym a.reads ∙ reads_again in
          record { out = out; after = after; place = p; room = room; call = call; values = cc v }
      back out (Err e) after room l c = clash (cc (c.told [] ∙ ap (map_read (λ (ws : List Value). first_place 0)) (fitting out l)))

      normal_again : read_at (normal cs) onward 0 ≡ took form (length form)
      normal_again =
          at_took (normal cs) onward 0 form (length form) zero-le
          (subst (λ (bytes : List ℕ). normal cs (bytes ++ rest) ≡ took bytes (length bytes)) of_values (known.own rest))
          ∙ ap (took form) (zero-add (length form))

      roomy : (out : List ℕ) → length form ≤ length out → normal_of [] cols onward 0 (length out) ≡ took form (length form)
      unfolding fitted_read
      roomy out l =
          ap (λ (q : Read (List ℕ)). fitted_read (λ (bytes : List ℕ). bytes) q (length out)) normal_again ∙ rw (le-ltb (length out) (length form) l)

      -- `normal_row` on the form, with room for it: the form
      pub own : (out : List ℕ) (r : Result (ℕ × Cursor) Refusal) (after : List ℕ) → length form ≤ length out → NormalisesRow cols onward 0 out r after →
          Form cols onward 0 form (length form)
      unfolding room_after_read
      own out (Ok (count, next)) after l c =
          let e : took count next.at ≡ took (length form) (length form) = c.answer [] ∙ ap (map_read length) (roomy out l) in
          let k : count ≡ length form = cc e in
          let n : next.at ≡ length form = cc e in
          let room : after ≡ form ++ drop (length form) out =
          c.room [] ∙ ap (λ (q : Read (List ℕ)). room_after_read (λ (bytes : List ℕ). bytes) q out) (roomy out l) in
          record {
            out = out;
            after = after;
            count = count;
            call = subst (λ (i : ℕ). NormalisesRow cols onward 0 out (Ok (count, (record { at = i }))) after) n c;
            is = front count form after out (sym k) room;
          }
      own out (Err e) after l c = clash (cc (c.answer [] ∙ ap (map_read length) (roomy out l)))

-- two rows under one list of columns
module _ (cols : List Column) (s t : List ℕ) (a b : ℕ) (p : Bytes s) (q : Bytes t) (vs ws : List Value) (form gorm : List ℕ) (k l m n : ℕ) where
  pub same : Holds cols s a vs k → Form cols s a form l → Holds cols t b ws m → Form cols t b gorm n → (form ≡ gorm) ↔ (vs ≡ ws)
  same x f y g =
      let u = of_values cols s a p vs form k l x f in
      let v = of_values cols t b q ws gorm m n y g in
      let other = holds_row cols t b ws m y in
      let each = (known cols s a p vs form k l x f).same (drop b t) ws other.took-bytes (bytes_drop b t q) other.reads in
      (λ e. each.0 (u ∙ (e ∙ sym v)), λ e. sym u ∙ (each.1 e ∙ v))

-- ---- descriptors

-- A descriptor that was read, written again with room, is exactly the bytes consumed, save Xml with a marker other than 0 or 1.
module _ (s : List ℕ) (at : ℕ) (p : Bytes s) (c : Column) (next : Cursor) (read : column_read_told s (Ok (c, next)) ≡ read_at D.read_column s at)
    (plain : odd_marker (drop at s) ≡ false) where
  abbrev count : ℕ
  count = next.at - at

  abbrev bytes : List ℕ
  bytes = take count (drop at s)

  counted : length bytes ≡ count
  counted =
      let t = took_at D.read_column s at (column_told s c) next.at (sym read) in
      let l = stream_column.stays (drop at s) (column_told s c) t.1 t.2 in
      length-take-le count (drop at s) (omega (arith, l, t.3))

  given : (out : List ℕ) → count ≤ length out → fitted (write_column (column_told s c)) (length out) ≡ gives bytes
  unfolding fitted
  given out l =
      let f : ltb (length out) (length bytes) ≡ false = le-ltb (length out) (length bytes) (omega (arith, l, counted)) in
      ap (λ (g : Answer (List ℕ)). fitted g (length out)) (read-written s at c (record { at = next.at }) p read plain) ∙ rw f

  pub again : (out : List ℕ) (r : Result ℕ Refusal) (after : List ℕ) → count ≤ length out → Writes (write_column (column_told s c)) out r after →
      (r ≡ Ok count) × (take count after ≡ bytes)
  unfolding wrote room_after
  again out (Ok n) after l w =
      let e : gives n ≡ gives (length bytes) = w.answer ∙ ap wrote (given out l) in
      let k : n ≡ length bytes = cc e in
      (ap Ok (k ∙ counted), front count bytes after out counted (w.room ∙ ap (λ (g : Answer (List ℕ)). room_after g out) (given out l)))
  again out (Err e) after l w = clash (cc (w.answer ∙ ap wrote (given out l)))
