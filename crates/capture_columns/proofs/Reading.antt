-- Columns read one behind another: what is left, read from where the columns so far end and put behind them, is what the whole list reads as; and where the
-- reading of what is left stops is where the whole stops.
-- Assumes nothing.
use mathlib.Core.Path.{◌≡◌, refl, sym, ap, ◌∙◌}
use mathlib.Core.List.{List, [], ◌∷◌, ◌++◌, map, append-nil, append_assoc}
use Prim.Native.Nat.{ℕ, zero, suc, ◌+◌, ◌-◌, ◌<◌, ◌≤◌}
use native.Mathlib.Nat.{not-suc-le-zero, le_of_suc-le-suc, add-zero}
use native.Mathlib.Numerals.{add-one}
use native.Mathlib.Omega.{arith}
use lib.ListN.{length, set, take}
use Rattle.format.specs.Answer.{Refusal, Read, took, stops, missing, map_read, read_at}
use Rattle.format.specs.Descriptor as D
use Rattle.format.specs.Row.{cons_read, read_columns}
use Rattle.format.proofs.Place.{at_behind, at_took, at_then, at_then_stops, at_map-took, at_map-stops, next_inside}
use Rattle.format.proofs.MoreReaders.{stream_column}
use Rattle.capture_columns.specs.Told.{stop_of, stop_behind}

-- ---- what is left, behind the columns so far

abbrev pub read_left : ℕ → List ℕ → List D.Column → ℕ → Read (List D.Column)
read_left n s before at = map_read (◌++◌ before) (read_at (read_columns n) s at)

module _ (s : List ℕ) where
  pub left_all : (n at : ℕ) → read_left n s [] at ≡ read_at (read_columns n) s at
  left_all n at = same (read_at (read_columns n) s at)
    where
      same : (r : Read (List D.Column)) → map_read (◌++◌ []) r ≡ r
      same (took cs m) = refl
      same (stops e) = refl

  pub left_none : (before : List D.Column) (at : ℕ) → at ≤ length s → read_left 0 s before at ≡ took before at
  unfolding read_columns
  left_none before at i =
      ap (map_read (◌++◌ before)) (at_took (read_columns 0) s at [] 0 i refl) ∙ rw (append-nil before, add-zero at)

  -- one column more
  behind : (before : List D.Column) (c : D.Column) (next : ℕ) (n : ℕ) (q : Read (List D.Column)) → read_at (read_columns n) s next ≡ q →
      map_read (◌++◌ before) (read_at (cons_read (read_columns n) c) s next) ≡ map_read (◌++◌ (before ++ (c ∷ []))) q
  behind before c next n (took cs k) e =
      ap (map_read (◌++◌ before)) (at_map-took (◌∷◌ c) (read_columns n) s next cs k e)
      ∙ ap (λ (ds : List D.Column). took ds k) (sym (append_assoc before (c ∷ []) cs))
  behind before c next n (stops r) e = ap (map_read (◌++◌ before)) (at_map-stops (◌∷◌ c) (read_columns n) s next r e)

  more : (n : ℕ) (before : List D.Column) (at : ℕ) (c : D.Column) (next : ℕ) → read_at D.read_column s at ≡ took c next →
      read_left (suc n) s before at ≡ read_left n s (before ++ (c ∷ [])) next
  unfolding read_columns
  more n before at c next e =
      ap (map_read (◌++◌ before)) (at_then D.read_column (cons_read (read_columns n)) s at stream_column.stays c next e)
      ∙ behind before c next n (read_at (read_columns n) s next) refl

  no_more : (n : ℕ) (before : List D.Column) (at : ℕ) (e : Refusal) → read_at D.read_column s at ≡ stops e → read_left (suc n) s before at ≡ stops e
  unfolding read_columns
  no_more n before at e h = ap (map_read (◌++◌ before)) (at_then_stops D.read_column (cons_read (read_columns n)) s at e h)

  stop_more : (n k at : ℕ) (c : D.Column) (next : ℕ) → read_at D.read_column s at ≡ took c next → stop_of (suc n) s k at ≡ stop_of n s (k + 1) next
  unfolding stop_of
  stop_more n k at c next e = ap (stop_behind k at (stop_of n s)) e

  stop_here : (n k at : ℕ) (e : Refusal) → read_at D.read_column s at ≡ stops e → stop_of (suc n) s k at ≡ record { columns = k; place = at }
  unfolding stop_of
  stop_here n k at e h = ap (stop_behind k at (stop_of n s)) h

  -- the same by how many are left of a count
  module _ (count i : ℕ) (l : i < count) (before : List D.Column) (at : ℕ) where
    left_is : count - i ≡ suc (count - (i + 1))
    left_is = omega arith

    pub left_more : (c : D.Column) (next : ℕ) → read_at D.read_column s at ≡ took c next →
        read_left (count - i) s before at ≡ read_left (count - (i + 1)) s (before ++ (c ∷ [])) next
    left_more c next e = ap (λ (n : ℕ). read_left n s before at) left_is ∙ more (count - (i + 1)) before at c next e

    pub left_stops : (e : Refusal) → read_at D.read_column s at ≡ stops e → read_left (count - i) s before at ≡ stops e
    left_stops e h = ap (λ (n : ℕ). read_left n s before at) left_is ∙ no_more (count - (i + 1)) before at e h

    pub stop_goes_on : (k : ℕ) (c : D.Column) (next : ℕ) → read_at D.read_column s at ≡ took c next →
        stop_of (count - i) s k at ≡ stop_of (count - (i + 1)) s (k + 1) next
    stop_goes_on k c next e = ap (λ (n : ℕ). stop_of n s k at) left_is ∙ stop_more (count - (i + 1)) k at c next e

    pub stop_is : (k : ℕ) (e : Refusal) → read_at D.read_column s at ≡ stops e → stop_of (count - i) s k at ≡ record { columns = k; place = at }
    stop_is k e h = ap (λ (n : ℕ). stop_of n s k at) left_is ∙ stop_here (count - (i + 1)) k at e h

  -- before the first turn
  pub left_begins : (count at : ℕ) → read_at (read_columns count) s at ≡ read_left (count - 0) s [] at
  left_begins count at = let z : count - 0 ≡ count = omega arith in sym (left_all count at) ∙ ap (λ (n : ℕ). read_left n s [] at) (sym z)

  pub stop_begins : (count at : ℕ) → stop_of count s 0 at ≡ stop_of (count - 0) s 0 at
  stop_begins count at = let z : count - 0 ≡ count = omega arith in ap (λ (n : ℕ). stop_of n s 0 at) (sym z)

  -- behind the last
  pub left_ends : (count i : ℕ) (before : List D.Column) (at : ℕ) → i ≤ count → count ≤ i → at ≤ length s →
      read_left (count - i) s before at ≡ took before at
  left_ends count i before at l m h = let z : count - i ≡ 0 = omega arith in ap (λ (n : ℕ). read_left n s before at) z ∙ left_none before at h

  -- a place behind the end stops at once
  pub stop_behind_lem : (count at : ℕ) → length s < at → stop_of count s 0 at ≡ record { columns = 0; place = at }
  unfolding stop_of
  stop_behind_lem zero at h = refl
  stop_behind_lem (suc n) at h = stop_here n 0 at missing (at_behind D.read_column s at h)

  -- the next place lies inside
  pub column-inside : (at : ℕ) (c : D.Column) (next : ℕ) → read_at D.read_column s at ≡ took c next → next ≤ length s
  column-inside at c next e = (next_inside D.read_column s at stream_column.stays c next e).1

-- ---- the list that is held

module _ {A B : Type 0} (f : A → B) where
  held : (i : ℕ) (xs : List A) (x : A) → i < length xs → map f (take (suc i) (set xs i x)) ≡ map f (take i xs) ++ (f x ∷ [])
  held i [] x l = absurd (not-suc-le-zero l)
  held zero (y ∷ ys) x l = refl
  held (suc i) (y ∷ ys) x l = ap (◌∷◌ (f y)) (held i ys x (le_of_suc-le-suc l))

  pub held_more : (i : ℕ) (xs : List A) (x : A) → i < length xs → map f (take (i + 1) (set xs i x)) ≡ map f (take i xs) ++ (f x ∷ [])
  held_more i xs x l = rw (add-one i) (held i xs x l)
