-- A row that is read into a room and a list of numbers: what is known where it was judged to fit both, and that a refusal changes nothing.
-- Assumes nothing.
use mathlib.Core.Path.{◌≡◌, refl, ap}
use mathlib.Core.List.{List, []}
use Prim.Native.Nat.{ℕ, ◌*◌, ◌<◌, ◌≤◌}
use native.Mathlib.Omega.{arith}
use lib.ListN.{length}
use borrow.Author.Tests.{le-ltb, lt-ltb}
use Rattle.lists.proofs.Split.{clash}
use Rattle.format.specs.Answer.{Refusal, Read, took, stops, room, map_read, read_at, fitted_read, room_after_read}
use Rattle.format.specs.Descriptor as D
use Rattle.format.specs.Value.{Value}
use Rattle.format.specs.Row.{read_values, read_row, copied_out_row}
use Rattle.format.proofs.Found.{read_fits, columns}
use Rattle.value_weigh.specs.Told.{Needs}
use Rattle.judge_step.specs.Told.{needs_of}
use Rattle.read_step.proofs.Joining.{within}
use Rattle.packed_slots.specs.Steps.{Readable}
use Rattle.packed_read.specs.Told.{row_out, values_after}

module _ (cs : List D.Column) (s : List ℕ) (at size numbers : ℕ) where
  -- the row, where what it copies out fits the room
  abbrev pub read : Read (List Value)
  read = fitted_read (copied_out_row cs) (read_at (read_row cs) s at) size

  abbrev pub out : Read (List Value)
  out = row_out cs s at size numbers

  -- what is known of a row that fits both
  pub record Fits : Type 0 where
    pub values : List Value
    pub next : ℕ
    pub is : read ≡ took values next
    pub same : out ≡ took values next
    pub place : 3 * length cs ≤ numbers

  -- what the row needs
  abbrev needed : Read Needs
  needed = map_read (needs_of cs) (read_at (read_row cs) s at)

  -- a row that was judged and fits the room is read
  in_room : (m : Needs) (k : ℕ) → took m k ≡ needed → m.joined ≤ size → (vs : List Value) × (read ≡ took vs k) × (m ≡ needs_of cs vs)
  unfolding fitted_read
  in_room m k h l = go (read_at (read_row cs) s at) refl
    where
      go : (r : Read (List Value)) → read_at (read_row cs) s at ≡ r → (vs : List Value) × (read ≡ took vs k) × (m ≡ needs_of cs vs)
      go (took vs n) e =
          let w : took m k ≡ took (needs_of cs vs) n = rw e at h in
          let q : m ≡ needs_of cs vs = cc in
          let j : m.joined ≡ length (copied_out_row cs vs) = ap (λ (x : Needs). x.joined) q in
          let i : n ≡ k = cc in
          (vs, rw (e, le-ltb size (length (copied_out_row cs vs)) (omega (arith, j, l)), i), q)
      go (stops x) e = clash (cc (rw e at h))

  -- and where the list has place for its numbers, that is the answer
  pub fits : (m : Needs) (k : ℕ) → took m k ≡ needed → m.joined ≤ size → 3 * length cs ≤ numbers → Fits
  fits m k h l p =
      let r = in_room m k h l in
      record { values = r.0; next = k; is = r.1; same = rw (r.1, le-ltb numbers (3 * length cs) p); place = p }

  pub told : (m : Needs) (k : ℕ) → took m k ≡ needed → m.joined ≤ size → 3 * length cs ≤ numbers → took m k ≡ map_read (needs_of cs) out
  told m k h l p =
      let r = in_room m k h l in
      rw (r.1, le-ltb numbers (3 * length cs) p) (ap (λ (x : Needs). took x k) r.2)

  -- where it has not, that is the refusal
  pub no_place : (m : Needs) (k : ℕ) → took m k ≡ needed → m.joined ≤ size → numbers < 3 * length cs → stops room ≡ map_read (needs_of cs) out
  no_place m k h l p =
      let r = in_room m k h l in
      rw (r.1, lt-ltb numbers (3 * length cs) p)

  pub no_room : (m : Needs) (k : ℕ) → took m k ≡ needed → size < m.joined → stops room ≡ map_read (needs_of cs) out
  unfolding fitted_read
  no_room m k h l = go (read_at (read_row cs) s at) refl
    where
      go : (r : Read (List Value)) → read_at (read_row cs) s at ≡ r → stops room ≡ map_read (needs_of cs) out
      go (took vs n) e =
          let w : took m k ≡ took (needs_of cs vs) n = rw e at h in
          let q : m ≡ needs_of cs vs = cc in
          let j : m.joined ≡ length (copied_out_row cs vs) = ap (λ (x : Needs). x.joined) q in
          rw (e, lt-ltb size (length (copied_out_row cs vs)) (omega (arith, j, l)))
      go (stops x) e = clash (cc (rw e at h))

  pub refused : (x : Refusal) → stops x ≡ needed → stops x ≡ map_read (needs_of cs) out
  unfolding fitted_read
  refused x h = go (read_at (read_row cs) s at) refl
    where
      go : (r : Read (List Value)) → read_at (read_row cs) s at ≡ r → stops x ≡ map_read (needs_of cs) out
      go (took vs n) e = clash (cc (rw e at h))
      go (stops y) e = rw e (rw e at h)

  -- the row can be taken value by value
  pub row_read : (f : Fits) → read_at (read_values cs) s at ≡ took f.values f.next
  row_read f = columns cs s at f.values f.next [] (read_fits (copied_out_row cs) size (read_at (read_row cs) s at) f.values f.next f.is)

  pub readable : (f : Fits) → Readable size cs (read_at (read_values cs) s at)
  readable f = rw (row_read f) (within cs size (read_at (read_row cs) s at) f.values f.next f.is)

  -- a refusal changes neither
  pub room-kept : (e : Refusal) (before : List ℕ) → stops e ≡ map_read (needs_of cs) out → before ≡ room_after_read (copied_out_row cs) out before
  unfolding room_after_read
  room-kept e before h = go out h
    where
      go : (r : Read (List Value)) → stops e ≡ map_read (needs_of cs) r → before ≡ room_after_read (copied_out_row cs) r before
      go (took vs n) k = clash cc
      go (stops x) k = refl

  pub values-kept : (e : Refusal) (before : List ℕ) → stops e ≡ map_read (needs_of cs) out → before ≡ values_after cs s at out before
  values-kept e before h = go out h
    where
      go : (r : Read (List Value)) → stops e ≡ map_read (needs_of cs) r → before ≡ values_after cs s at r before
      go (took vs n) k = clash cc
      go (stops x) k = refl
