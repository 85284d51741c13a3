-- Judging a row, turn by turn: what is left of the columns, read from where the row so far ends, needs behind what the row needs so far what the whole row
-- needs.
-- Why it holds: `read_values` takes a column from the left at each turn as the pass does, and the second reader goes on at the first one's next place; both
-- end at the first refusal, and a refused row stays refused. The place and the number of columns were judged before the first turn.
-- Assumes nothing.
use Rattle.std.specs.Prelude.{Err, Ok, Result}
use mathlib.Core.Path.{◌≡◌, refl, sym, ap, ◌∙◌}
use mathlib.Core.Bool.{Bool, true, false}
use mathlib.Core.List.{List, [], ◌∷◌}
use Prim.Native.Nat.{ℕ, ◌+◌, ◌<◌, ◌≤◌}
use native.Mathlib.Omega.{arith}
use native.Mathlib.Nat.{add-zero, zero-add, add_assoc}
use lib.ListN.{length, get_or, drop, length-map, length-append}
use lib.Dec.{ltb}
use borrow.Author.Tests.{ltb-true, ltb-false, le-ltb}
use Rattle.lists.proofs.Split.{clash}
use Rattle.format.specs.Answer.{Refusal, Read, took, stops, missing, rule, further, map_read, read_at}
use Rattle.format.specs.Descriptor as D
use Rattle.format.specs.Value.{Value, read_value, copied_out, encode}
use Rattle.format.specs.Row.{max_columns, cons_read, read_values, read_row, copied_out_row}
use Rattle.format.specs.Normal.{encode_row}
use Rattle.format.proofs.Place.{past, at_behind, at_inside, at_took, at_stops, at_then, at_then_stops, at_map-took, at_map-stops}
use Rattle.format.proofs.MoreReaders.{stream_value}
use Rattle.column_type.specs.declared.Column.{Column}
use Rattle.column_type.specs.Told.{column_told}
use Rattle.columns.specs.None.{no_column}
use Rattle.columns.specs.Told.{columns_told}
use Rattle.columns.proofs.Taken.{left_at, none_left}
use Rattle.value_weigh.specs.Told.{Needs, needs_value}
use Rattle.judge_step.specs.Told.{needs_of, needs_told, row_judged_told}
use Rattle.judge_step.specs.Steps.{no_needs, start_of, plus_needs, judge_on, Inside}
use Rattle.judge_step.specs.declared.RowNeeds.{RowNeeds}
use Rattle.wire.specs.declared.Refusal as E
use Rattle.wire.specs.Told.{refusal_told}

-- ---- what is left of a row behind what it needs so far

abbrev pub judge_left : List D.Column → List ℕ → Read Needs → Read Needs
judge_left cs s (took n at) = map_read (λ vs. plus_needs n (needs_of cs vs)) (read_at (read_values cs) s at)
judge_left cs s (stops e) = stops e

plus_zero : (n : Needs) → plus_needs no_needs n ≡ n
plus_zero n = rw (zero-add n.joined, zero-add n.normal)

zero_plus : (n : Needs) → plus_needs n no_needs ≡ n
zero_plus n = rw (add-zero n.joined, add-zero n.normal)

needs_more : (d : D.Column) (ds : List D.Column) (v : Value) (vs : List Value) (n : Needs)
    → plus_needs n (needs_of (d ∷ ds) (v ∷ vs)) ≡ plus_needs (plus_needs n (needs_value d v)) (needs_of ds vs)
unfolding copied_out_row encode_row
needs_more d ds v vs n =
    rw (
      length-append (copied_out d v) (copied_out_row ds vs),
      length-append (encode d v) (encode_row ds vs),
      add_assoc n.joined (length (copied_out d v)) (length (copied_out_row ds vs)),
      add_assoc n.normal (length (encode d v)) (length (encode_row ds vs)),
    )

module _ (d : D.Column) (ds : List D.Column) (s : List ℕ) where
  -- the columns behind the first, from its next place on
  others : (v : Value) (next : ℕ) (n : Needs) (q : Read (List Value)) → read_at (read_values ds) s next ≡ q
      → map_read (λ vs. plus_needs n (needs_of (d ∷ ds) vs)) (read_at (cons_read (read_values ds) v) s next)
      ≡ map_read (λ vs. plus_needs (plus_needs n (needs_value d v)) (needs_of ds vs)) q
  others v next n (took vs k) e =
      ap (map_read (λ (ws : List Value). plus_needs n (needs_of (d ∷ ds) ws))) (at_map-took (◌∷◌ v) (read_values ds) s next vs k e)
      ∙ ap (λ (m : Needs). took m k) (needs_more d ds v vs n)
  others v next n (stops r) e =
      ap (map_read (λ (ws : List Value). plus_needs n (needs_of (d ∷ ds) ws))) (at_map-stops (◌∷◌ v) (read_values ds) s next r e)

  first : (n : Needs) (at : ℕ) (r : Read Value) → read_at (read_value d) s at ≡ r
      → judge_left (d ∷ ds) s (took n at) ≡ judge_left ds s (map_read (λ v. plus_needs n (needs_value d v)) r)
  unfolding read_values
  first n at (took v next) e =
      ap (map_read (λ (ws : List Value). plus_needs n (needs_of (d ∷ ds) ws)))
      (at_then (read_value d) (cons_read (read_values ds)) s at (stream_value d).stays v next e)
      ∙ others v next n (read_at (read_values ds) s next) refl
  first n at (stops r) e =
      ap (map_read (λ (ws : List Value). plus_needs n (needs_of (d ∷ ds) ws))) (at_then_stops (read_value d) (cons_read (read_values ds)) s at r e)

  -- one column more
  left_more : (x : Read Needs) → judge_left (d ∷ ds) s x ≡ judge_left ds s (judge_on d s x)
  left_more (took n at) = first n at (read_at (read_value d) s at) refl
  left_more (stops e) = refl

-- none is left: behind a row so far, and behind any state
left_none : (s : List ℕ) (n : Needs) (at : ℕ) → at ≤ length s → judge_left [] s (took n at) ≡ took n at
unfolding read_values copied_out_row encode_row
left_none s n at i =
    ap (map_read (λ vs. plus_needs n (needs_of [] vs))) (at_took (read_values []) s at [] 0 i refl)
    ∙ rw (add-zero at, zero_plus n)

left_ended : (s : List ℕ) (x : Read Needs) → Inside (length s) x → judge_left [] s x ≡ x
left_ended s (took n at) i = left_none s n at i.0
left_ended s (stops e) i = refl

-- the whole row, from its place on
left_all : (cs : List D.Column) (s : List ℕ) (at : ℕ) → judge_left cs s (took no_needs at) ≡ map_read (needs_of cs) (read_at (read_values cs) s at)
left_all cs s at = go (read_at (read_values cs) s at)
  where
    go : (r : Read (List Value)) → map_read (λ vs. plus_needs no_needs (needs_of cs vs)) r ≡ map_read (needs_of cs) r
    go (took vs n) = ap (λ (m : Needs). took m n) (plus_zero (needs_of cs vs))
    go (stops e) = refl

-- ---- the turns

module _ (ys : List Column) (s : List ℕ) (at : ℕ) where
  abbrev pub n : ℕ
  n = length ys

  abbrev pub start : Read Needs
  start = start_of n (length s) at

  -- what the call answers, the columns' names parts of any buffer
  abbrev pub answer : List ℕ → Read Needs
  answer b = map_read (needs_of (columns_told b ys)) (read_at (read_row (columns_told b ys)) s at)

  -- what is left of the columns at a turn
  abbrev pub left : List ℕ → ℕ → List D.Column
  left b i = columns_told b (drop i ys)

  -- a place and a count that were let through
  begun : (m : Needs) (k : ℕ) → start ≡ took m k → (at ≤ length s) × (n ≤ max_columns) × (no_needs ≡ m) × (at ≡ k)
  begun m k h =
      let p = past (ltb (length s) at) missing _ m k h in
      let q = past (ltb max_columns n) rule _ m k p.1 in
      let e : no_needs ≡ m = cc q.1 in
      let f : at ≡ k = cc q.1 in
      (ltb-false (length s) at p.0, ltb-false max_columns n q.0, e, f)

  -- the row is then the columns
  row_values_lem : (b l : List ℕ) → ltb max_columns n ≡ false → read_row (columns_told b ys) l ≡ read_values (columns_told b ys) l
  unfolding read_row
  row_values_lem b l t = rw (length-map ys (column_told b), t)

  row-refused : (b l : List ℕ) → ltb max_columns n ≡ true → read_row (columns_told b ys) l ≡ stops rule
  unfolding read_row
  row-refused b l t = rw (length-map ys (column_told b), t)

  row_at : (b : List ℕ) → at ≤ length s → n ≤ max_columns → read_at (read_row (columns_told b ys)) s at ≡ read_at (read_values (columns_told b ys)) s at
  row_at b i l =
      at_inside (read_row (columns_told b ys)) s at i
      ∙ (ap (further at) (row_values_lem b (drop at s) (le-ltb max_columns n l))
      ∙ sym (at_inside (read_values (columns_told b ys)) s at i))

  -- a place or a count that was not
  unbegun : (b : List ℕ) (e : Refusal) → start ≡ stops e → answer b ≡ stops e
  unbegun b e h = go (ltb (length s) at) refl (ltb max_columns n) refl
    where
      go : (x : Bool) → ltb (length s) at ≡ x → (y : Bool) → ltb max_columns n ≡ y → answer b ≡ stops e
      go true p y q =
          let z : missing ≡ e = cc (rw p at h) in
          ap (map_read (needs_of (columns_told b ys))) (at_behind (read_row (columns_told b ys)) s at (ltb-true (length s) at p)) ∙ ap stops z
      go false p true q =
          let z : rule ≡ e = cc (rw (p, q) at h) in
          ap (map_read (needs_of (columns_told b ys)))
          (at_stops (read_row (columns_told b ys)) s at rule (ltb-false (length s) at p) (row-refused b (drop at s) q)) ∙ ap stops z
      go false p false q = clash (cc (rw (p, q) at h))

  -- what is known at a turn
  abbrev pub Judged : ℕ → RowNeeds → Type 0
  Judged i r = ((b : List ℕ) → judge_left (left b i) s (row_judged_told (Ok r)) ≡ answer b) × Inside (length s) (row_judged_told (Ok r))

  -- and where a value was judged, or refused
  abbrev pub JudgedOn : ℕ → Result RowNeeds E.Refusal → Type 0
  JudgedOn i (Ok r) = Judged i r
  JudgedOn i (Err e) = (b : List ℕ) → stops (refusal_told e) ≡ answer b

  pub judging_begins : (r : RowNeeds) → row_judged_told (Ok r) ≡ start → Judged 0 r
  judging_begins r h =
      let c = begun (needs_told r) r.next.at (sym h) in
      let j : 0 ≡ r.joined = ap (λ (m : Needs). m.joined) c.2 in
      let k : 0 ≡ r.normal = ap (λ (m : Needs). m.normal) c.2 in
      let t : took (needs_told r) r.next.at ≡ took no_needs at = ap (λ (m : Needs). took m r.next.at) (sym c.2) ∙ ap (took no_needs) (sym c.3) in (
        λ b.
            ap (judge_left (left b 0) s) t
            ∙ (left_all (columns_told b ys) s at ∙ ap (map_read (needs_of (columns_told b ys))) (sym (row_at b c.0 c.1))),
        (omega (arith, c.3, c.0), omega (arith, j), omega (arith, k)),
      )

  -- what a step answers
  pub judging_next : (i : ℕ) (r : RowNeeds) (x : Result RowNeeds E.Refusal) (c : Column) → i < n → Judged i r → c ≡ get_or ys i no_column →
      ((b : List ℕ) → row_judged_told x ≡ judge_on (column_told b c) s (row_judged_told (Ok r))) → Inside (length s) (row_judged_told x) → JudgedOn (i + 1) x
  judging_next i r x c l z e q w = go x told w
    where
      more : (b : List ℕ) → column_told b c ∷ left b (i + 1) ≡ left b i
      more b = rw (left_at no_column i ys l, e)

      told : (b : List ℕ) → judge_left (left b (i + 1)) s (row_judged_told x) ≡ answer b
      told b =
          ap (judge_left (left b (i + 1)) s) (q b)
          ∙ (sym (left_more (column_told b c) (left b (i + 1)) s (row_judged_told (Ok r)))
          ∙ (ap (λ (cs : List D.Column). judge_left cs s (row_judged_told (Ok r))) (more b)
          ∙ z.0 b))

      go : (y : Result RowNeeds E.Refusal) → ((b : List ℕ) → judge_left (left b (i + 1)) s (row_judged_told y) ≡ answer b)
          → Inside (length s) (row_judged_told y) → JudgedOn (i + 1) y
      go (Ok m) t v = (t, v)
      go (Err d) t v = t

  -- behind the last turn
  pub judging_ends : (r : RowNeeds) → Judged n r → (b : List ℕ) → row_judged_told (Ok r) ≡ answer b
  judging_ends r z b =
      sym (left_ended s (row_judged_told (Ok r)) z.1)
      ∙ (ap (λ (cs : List D.Column). judge_left cs s (row_judged_told (Ok r))) (sym (none_of b)) ∙ z.0 b)
    where
      none_of : (b : List ℕ) → left b n ≡ []
      none_of b = rw (none_left ys)

  -- a place or a count that was refused
  pub start_refused : (e : E.Refusal) → stops (refusal_told e) ≡ start → (b : List ℕ) → stops (refusal_told e) ≡ answer b
  start_refused e h b = sym (unbegun b (refusal_told e) (sym h))
