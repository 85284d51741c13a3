-- The size pass of a row, turn by turn: what is left of the columns and values gives, behind the size so far, what all of them give.
-- Why it holds: `write_values` takes a column and a value from the left at each turn as the pass does, and both end at the first refusal; a refused row stays
-- refused, and the counts were judged before the first turn. The size so far is that of as many values as turns, so it stays below the bound of 1,024 of
-- them.
-- Assumes nothing.
use mathlib.Core.Path.{◌≡◌, refl, sym, ap, ◌∙◌}
use mathlib.Core.Bool.{Bool, true, false, not}
use mathlib.Core.List.{List, []}
use Prim.Native.Nat.{ℕ, ◌+◌, ◌<◌, ◌≤◌}
use native.Mathlib.Omega.{arith}
use native.Mathlib.Nat.{add-zero, zero-add, add_assoc}
use lib.ListN.{length, get_or, drop, length-map, length-append}
use lib.Dec.{ltb, eqb}
use borrow.Author.Tests.{ltb-false, eqb-true, not-false}
use Rattle.format.specs.Answer.{Answer, Refusal, gives, refuses, rule, refuse_if, and_then, wrote}
use Rattle.format.specs.Descriptor as D
use Rattle.format.specs.Value.{write_value}
use Rattle.format.specs.Row.{max_columns, join_two, write_values, write_row}
use Rattle.format.proofs.Answer.{no_gives, passed}
use Rattle.column_type.specs.declared.Column.{Column}
use Rattle.column_type.specs.Told.{column_told}
use Rattle.value_kind.specs.declared.Value.{Value}
use Rattle.value_kind.specs.Told.{value_told}
use Rattle.columns.specs.None.{no_column, no_value}
use Rattle.columns.specs.Told.{columns_told, values_told}
use Rattle.row_step.specs.Steps.{start_of, size_on, Below}
use Rattle.row_step.proofs.Most.{most}
use Rattle.columns.proofs.Taken.{left_at, none_left}

-- ---- sums of sizes

-- a value, and the others behind it
on_more : (s : Answer ℕ) (a b : Answer (List ℕ)) → size_on s (and_then a (join_two b)) ≡ size_on (size_on s a) b
on_more (gives at) (gives x) (gives y) = ap gives (ap (λ (k : ℕ). at + k) (length-append x y) ∙ sym (add_assoc at (length x) (length y)))
on_more (gives at) (gives x) (refuses e) = refl
on_more (gives at) (refuses e) b = refl
on_more (refuses e) a b = refl

-- no value more
on_none : (s : Answer ℕ) → size_on s (gives []) ≡ s
on_none (gives at) = ap gives (add-zero at)
on_none (refuses e) = refl

-- from nothing
on_first : (a : Answer (List ℕ)) → size_on (gives 0) a ≡ wrote a
unfolding wrote
on_first (gives x) = ap gives (zero-add (length x))
on_first (refuses e) = refl

-- ---- the counts

module _ (buffer : List ℕ) (ys : List Column) (zs : List Value) where
  abbrev pub n : ℕ
  n = length ys

  abbrev pub m : ℕ
  m = length zs

  -- the row that is asked for
  abbrev pub asked : Answer (List ℕ)
  asked = write_row (columns_told buffer ys) (values_told buffer zs)

  abbrev pub all : Answer (List ℕ)
  all = write_values (columns_told buffer ys) (values_told buffer zs)

  -- what is left at a turn
  abbrev pub left : ℕ → Answer (List ℕ)
  left i = write_values (columns_told buffer (drop i ys)) (values_told buffer (drop i zs))

  abbrev pub here : ℕ → Answer (List ℕ)
  here i = write_value (column_told buffer (get_or ys i no_column)) (value_told buffer (get_or zs i no_value))

  -- the counts of what the lists tell are the lists'
  asked_counts : asked ≡ refuse_if (ltb max_columns n) rule (refuse_if (not (eqb n m)) rule all)
  unfolding write_row
  asked_counts = rw (length-map ys (column_told buffer), length-map zs (value_told buffer))

  -- counts that were let through
  pub counted : (k : ℕ) → start_of n m ≡ gives k → (n ≤ 1024) × (n ≡ m) × (k ≡ 0) × (asked ≡ all)
  counted k h =
      let p = passed (ltb max_columns n) rule (refuse_if (not (eqb n m)) rule (gives 0)) k h in
      let q = passed (not (eqb n m)) rule (gives 0) k p.1 in
      let e : k ≡ 0 = cc q.1 in
      (ltb-false max_columns n p.0, eqb-true n m (not-false (eqb n m) q.0), e, asked_counts ∙ rw (p.0, q.0))

  -- and counts that were not
  refused_counts : (b b' : Bool) (e : Refusal) (a : Answer (List ℕ)) → refuse_if {A = ℕ} b rule (refuse_if b' rule (gives 0)) ≡ refuses e
      → refuse_if b rule (refuse_if b' rule a) ≡ refuses e
  refused_counts true b' e a h = cc
  refused_counts false true e a h = cc
  refused_counts false false e a h = no_gives e 0 (sym h)

  pub uncounted : (e : Refusal) → start_of n m ≡ refuses e → asked ≡ refuses e
  uncounted e h = asked_counts ∙ refused_counts (ltb max_columns n) (not (eqb n m)) e all h

  -- ---- one column more

  pub more : (i : ℕ) → i < n → i < m → left i ≡ and_then (here i) (join_two (left (i + 1)))
  unfolding write_values
  more i l k = rw (left_at no_column i ys l, left_at no_value i zs k)

  -- ---- the turns

  -- what is known at a turn: the sum so far, with the sizes of what is left, is the row's size
  abbrev pub Sized : ℕ → ℕ → Type 0
  Sized i at = (size_on (gives at) (left i) ≡ wrote all) × Below i (gives at)

  -- and where a value's size was found, or refused
  abbrev pub SizedOn : ℕ → Answer ℕ → Type 0
  SizedOn i (gives at) = Sized i at
  SizedOn i (refuses e) = refuses e ≡ wrote all

  pub sizing_begins : (k : ℕ) → start_of n m ≡ gives k → Sized 0 k
  sizing_begins k h =
      let e = (counted k h).2 in
      (rw e (on_first all), omega (arith, e))

  -- a sum is small enough to be added to
  pub sizing_asks : (k i at : ℕ) → start_of n m ≡ gives k → i < n → Sized i at → Below 1024 (gives at)
  sizing_asks k i at h l z = omega (arith, (counted k h).0, l, z.1)

  sizing_goes : (i at : ℕ) → i < n → i < m → Sized i at → SizedOn (i + 1) (size_on (gives at) (here i))
  sizing_goes i at l k z = go (here i) refl
    where
      d : D.Column
      d = column_told buffer (get_or ys i no_column)

      whole : size_on (size_on (gives at) (here i)) (left (i + 1)) ≡ wrote all
      whole = sym (on_more (gives at) (here i) (left (i + 1))) ∙ ap (size_on (gives at)) (sym (more i l k)) ∙ z.0

      go : (a : Answer (List ℕ)) → here i ≡ a → SizedOn (i + 1) (size_on (gives at) a)
      go (gives x) e = (rw e at whole, omega (arith, most buffer d (get_or zs i no_value) x e, z.1))
      go (refuses r) e = rw e at whole

  -- the same of what a step answers
  pub sizing_next : (i at : ℕ) (r : Answer ℕ) (c : Column) (v : Value) → i < n → i < m → Sized i at →
      c ≡ get_or ys i no_column → v ≡ get_or zs i no_value → r ≡ size_on (gives at) (write_value (column_told buffer c) (value_told buffer v))
      → SizedOn (i + 1) r
  sizing_next i at r c v l k z e f q = rw (q, e, f) (sizing_goes i at l k z)

  -- none is left
  pub none : left n ≡ gives []
  unfolding write_values
  none = rw (none_left ys)

  -- behind the last turn
  pub sizing_ends : (k at : ℕ) → start_of n m ≡ gives k → Sized n at → gives at ≡ wrote asked
  sizing_ends k at h z = sym (on_none (gives at)) ∙ ap (size_on (gives at)) (sym none) ∙ z.0 ∙ ap wrote (sym (counted k h).3)

  -- at a value that was refused, and at counts that were
  pub sizing_refused : (k : ℕ) (e : Refusal) → start_of n m ≡ gives k → refuses e ≡ wrote all → refuses e ≡ wrote asked
  sizing_refused k e h q = q ∙ ap wrote (sym (counted k h).3)

  pub start_refused : (e : Refusal) → start_of n m ≡ refuses e → refuses e ≡ wrote asked
  unfolding wrote
  start_refused e h = sym (ap wrote (uncounted e h))
