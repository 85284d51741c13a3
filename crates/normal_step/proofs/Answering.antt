-- What the call answers of a row, by what was read of it; and a row taken apart from the left.
-- Why it holds: the normal form is that of the values that were read, and the second reader goes on at the first one's next place.
-- Assumes nothing.
use mathlib.Core.Path.{◌≡◌, refl, sym, ap, ◌∙◌}
use mathlib.Core.List.{List, [], ◌∷◌}
use Prim.Native.Nat.{ℕ, ◌+◌, ◌<◌, ◌≤◌}
use native.Mathlib.Omega.{arith}
use lib.Dec.{ltb}
use lib.ListN.{length, drop}
use borrow.Author.Tests.{lt-ltb, le-ltb, ltb-false}
use Rattle.lists.specs.Pick.{pick}
use Rattle.lists.proofs.Split.{clash}
use Rattle.format.specs.Answer.{Refusal, Read, took, stops, room, map_read, read_at, fitted_read}
use Rattle.format.specs.Descriptor as D
use Rattle.format.specs.Value.{Value, read_value, encode}
use Rattle.format.specs.Row.{read_values, read_row}
use Rattle.format.specs.Normal.{encode_row, normal}
use Rattle.format.proofs.Place.{past, no_took, took_at, at_map-took, at_map-stops, next_inside}
use Rattle.format.proofs.Found.{columns, first_then}
use Rattle.format.proofs.MoreReaders.{stream_value}
use Rattle.column_type.specs.declared.Column.{Column}
use Rattle.columns.specs.Told.{columns_told}
use Rattle.value_weigh.specs.Told.{Needs}
use Rattle.judge_step.specs.Told.{needs_of}
use Rattle.normal_step.specs.Steps.{normal_value}
use Rattle.normal_step.proofs.Names.{at_normal}

-- ---- the answer

-- a normal form that fits: the row was read
module _ (cs : List D.Column) (s : List ℕ) (at size : ℕ) where
  abbrev pub asked : Read (List ℕ)
  asked = fitted_read (λ (bytes : List ℕ). bytes) (read_at (normal cs) s at) size

  -- by what was read
  asked_took : (vs : List Value) (n : ℕ) → read_at (read_row cs) s at ≡ took vs n
      → asked ≡ pick (ltb size (length (encode_row cs vs))) (stops room) (took (encode_row cs vs) n)
  unfolding fitted_read normal
  asked_took vs n e = ap (λ (r : Read (List ℕ)). fitted_read (λ (bytes : List ℕ). bytes) r size) (at_map-took (encode_row cs) (read_row cs) s at vs n e)

  asked_stops : (x : Refusal) → read_at (read_row cs) s at ≡ stops x → asked ≡ stops x
  unfolding fitted_read normal
  asked_stops x e = ap (λ (r : Read (List ℕ)). fitted_read (λ (bytes : List ℕ). bytes) r size) (at_map-stops (encode_row cs) (read_row cs) s at x e)

  -- a row that was judged, and fits the room, has its normal form
  pub normal_fits : (m : Needs) (n : ℕ) → took m n ≡ map_read (needs_of cs) (read_at (read_row cs) s at) → m.normal ≤ size
      → (j : List ℕ) × (asked ≡ took j n) × (took m.normal n ≡ map_read length asked)
  normal_fits m n h l = go (read_at (read_row cs) s at) refl
    where
      go : (r : Read (List Value)) → read_at (read_row cs) s at ≡ r → (j : List ℕ) × (asked ≡ took j n) × (took m.normal n ≡ map_read length asked)
      go (took vs k) e =
          let w : took m n ≡ took (needs_of cs vs) k = rw e at h in
          let q : m ≡ needs_of cs vs = cc in
          let i : n ≡ k = cc in
          let c : m.normal ≡ length (encode_row cs vs) = ap (λ (x : Needs). x.normal) q in
          let a : asked ≡ took (encode_row cs vs) n =
          asked_took vs k e ∙ rw (le-ltb size (length (encode_row cs vs)) (omega (arith, c, l)), i) in
          (encode_row cs vs, a, rw (a, c) refl)
      go (stops x) e = no_took x m n (rw e at (sym h))

  -- one that is longer is not answered
  pub normal_long : (m : Needs) (n : ℕ) → took m n ≡ map_read (needs_of cs) (read_at (read_row cs) s at) → size < m.normal → asked ≡ stops room
  normal_long m n h l = go (read_at (read_row cs) s at) refl
    where
      go : (r : Read (List Value)) → read_at (read_row cs) s at ≡ r → asked ≡ stops room
      go (took vs k) e =
          let w : took m n ≡ took (needs_of cs vs) k = rw e at h in
          let q : m ≡ needs_of cs vs = cc in
          let c : m.normal ≡ length (encode_row cs vs) = ap (λ (x : Needs). x.normal) q in
          asked_took vs k e ∙ rw (lt-ltb size (length (encode_row cs vs)) (omega (arith, c, l)))
      go (stops x) e = no_took x m n (rw e at (sym h))

  -- and one that was refused is refused
  pub normal_refused : (x : Refusal) → stops x ≡ map_read (needs_of cs) (read_at (read_row cs) s at) → asked ≡ stops x
  normal_refused x h = go (read_at (read_row cs) s at) refl
    where
      go : (r : Read (List Value)) → read_at (read_row cs) s at ≡ r → asked ≡ stops x
      go (took vs k) e = clash (cc (rw e at h))
      go (stops y) e =
          let i : x ≡ y = cc (rw e at h) in
          rw i (asked_stops y e)

  -- what an answered row is
  pub record Answered (j : List ℕ) (n : ℕ) : Type 0 where
    pub values : List Value
    pub read : read_at (read_values cs) s at ≡ took values n
    pub bytes : encode_row cs values ≡ j
    pub fits : length j ≤ size

  pub answered : (j : List ℕ) (n : ℕ) → asked ≡ took j n → Answered j n
  answered j n h = go (read_at (read_row cs) s at) refl
    where
      go : (r : Read (List Value)) → read_at (read_row cs) s at ≡ r → Answered j n
      go (took vs m) e =
          let p = past (ltb size (length (encode_row cs vs))) room (took (encode_row cs vs) m) j n (sym (asked_took vs m e) ∙ h) in
          let b : encode_row cs vs ≡ j = cc p.1 in
          let k : m ≡ n = cc p.1 in
          record {
            values = vs;
            read = columns cs s at vs m [] e ∙ ap (took vs) k;
            bytes = b;
            fits = rw (← b) (ltb-false size (length (encode_row cs vs)) p.0);
          }
      go (stops x) e = no_took x j n (sym (asked_stops x e) ∙ h)

-- the columns' names may be parts of any buffer
pub any_names : (ys : List Column) (s : List ℕ) (at size : ℕ) (b : List ℕ) → asked (columns_told [] ys) s at size ≡ asked (columns_told b ys) s at size
any_names ys s at size b = ap (λ (r : Read (List ℕ)). fitted_read (λ (bytes : List ℕ). bytes) r size) (sym (at_normal b ys s at))

-- ---- the first of the columns that are left

pub record First (d : D.Column) (ds : List D.Column) (s : List ℕ) (at : ℕ) (vs : List Value) (n : ℕ) : Type 0 where
  pub value : Value
  pub took-bytes : ℕ
  pub others : List Value
  pub here : normal_value d (drop at s) ≡ took (encode d value) took-bytes
  pub behind : read_at (read_values ds) s (at + took-bytes) ≡ took others n
  pub both : value ∷ others ≡ vs
  pub inside : at + took-bytes ≤ length s

pub first_of : (d : D.Column) (ds : List D.Column) (s : List ℕ) (at : ℕ) (vs : List Value) (n : ℕ) → read_at (read_values (d ∷ ds)) s at ≡ took vs n
    → First d ds s at vs n
first_of d ds s at vs n h =
    let f = first_then d ds s at vs n h in
    let p = took_at (read_value d) s at f.0 f.1 f.3 in
    let i = next_inside (read_value d) s at (stream_value d).stays f.0 f.1 f.3 in
    record {
      value = f.0;
      took-bytes = p.1;
      others = f.2;
      here = ap (map_read (encode d)) p.2;
      behind = rw p.3 f.4;
      both = f.5;
      inside = rw p.3 i.1;
    }
