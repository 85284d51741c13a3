-- The copying pass of a row, turn by turn: what the room and the run show, and behind it the normal form of what is left of the row, are the row's normal form.
-- Why it holds: the normal form is known to fit before the first turn; each turn adds one value's normal form to what is shown, and the columns behind it are
-- read on where the run stands. The last run is copied behind the last turn. At a refusal the run holds nothing.
-- Assumes nothing.
use mathlib.Core.Path.{◌≡◌, refl, sym, ap, ◌∙◌}
use mathlib.Core.List.{List, [], ◌∷◌, ◌++◌, append_assoc, append-nil}
use Prim.Native.Nat.{ℕ, ◌+◌, ◌-◌, ◌<◌, ◌≤◌}
use native.Mathlib.Omega.{arith}
use lib.ListN.{length, get_or, take, drop, length-append}
use lib.Seq.{drop-drop}
use Rattle.lists.specs.Put.{put_at}
use Rattle.format.specs.Answer.{Refusal, Read, took, stops, map_read, read_at, room_after_read}
use Rattle.format.specs.Descriptor as D
use Rattle.format.specs.Value.{Value, encode}
use Rattle.format.specs.Row.{read_values}
use Rattle.format.specs.Normal.{encode_row}
use Rattle.format.proofs.Place.{took_at}
use Rattle.column_type.specs.declared.Column.{Column}
use Rattle.column_type.specs.Told.{column_told}
use Rattle.columns.specs.None.{no_column}
use Rattle.columns.specs.Told.{columns_told}
use Rattle.columns.proofs.Taken.{left_at, none_left}
use Rattle.value_normal.specs.declared.Run.{Run}
use Rattle.value_normal.specs.Runs.{held, shown, run_on, RunFits, RunGrows, Grows}
use Rattle.value_normal.proofs.Growing.{held-length}
use Rattle.normal_step.specs.Steps.{open_of, normal_value}
use Rattle.normal_step.proofs.Answering.{asked, answered, First, first_of}

module _ (ys : List Column) (s : List ℕ) (at : ℕ) (out₀ : List ℕ) where
  -- the columns, and those that are left at a turn
  abbrev pub cs : List D.Column
  cs = columns_told [] ys

  abbrev left : ℕ → List D.Column
  left i = columns_told [] (drop i ys)

  -- what the call answers
  abbrev pub answer : Read (List ℕ)
  answer = asked cs s at (length out₀)

  -- what is known at a turn of a row whose normal form is j and whose end is n
  pub record Copying (j : List ℕ) (n i : ℕ) (run : Run) (bs : List ℕ) : Type 0 where
    pub values : List Value
    pub reads : read_at (read_values (left i)) s run.at ≡ took values n
    pub joins : shown s bs run ++ encode_row (left i) values ≡ j
    pub behind : drop run.put bs ≡ drop run.put out₀
    pub same : length bs ≡ length out₀
    pub lies : run.from ≤ run.at
    pub count : run.put + (run.at - run.from) + length (encode_row (left i) values) ≡ length j
    pub fits : length j ≤ length out₀

  -- by what the call answers
  abbrev pub Copied : Read (List ℕ) → ℕ → Run → List ℕ → Type 0
  Copied (took j n) i run bs = Copying j n i run bs
  Copied (stops e) i run bs = (bs ≡ out₀) × (run ≡ run_on 0 0)

  -- the first run starts at the row's first byte
  pub copying_begins : (a : Read (List ℕ)) (run : Run) → answer ≡ a → run ≡ open_of (map_read length a) at → Copied a 0 run out₀
  copying_begins (took j n) run h e =
      let w = answered cs s at (length out₀) j n h in
      let z : at - at ≡ 0 = omega arith in
      rw e (record {
        values = w.values;
        reads = w.read;
        joins = rw z w.bytes;
        behind = refl;
        same = refl;
        lies = omega arith;
        count = omega (arith, z, ap length w.bytes);
        fits = w.fits;
      })
  copying_begins (stops x) run h e = (refl, e)

  -- the column of a turn, and those behind it
  abbrev here : ℕ → D.Column
  here i = column_told [] (get_or ys i no_column)

  first : (j : List ℕ) (n i : ℕ) (run : Run) (bs : List ℕ) → i < length ys → (z : Copying j n i run bs)
      → First (here i) (left (i + 1)) s run.at z.values n
  first j n i run bs l z =
      let e : left i ≡ here i ∷ left (i + 1) = ap (columns_told []) (left_at no_column i ys l) in
      first_of (here i) (left (i + 1)) s run.at z.values n (rw e at z.reads)

  encodes : (i : ℕ) (v : Value) (os : List Value) → i < length ys → encode_row (left i) (v ∷ os) ≡ encode (here i) v ++ encode_row (left (i + 1)) os
  unfolding encode_row
  encodes i v os l = rw (left_at no_column i ys l)

  module _ (j : List ℕ) (n i : ℕ) (run : Run) (bs : List ℕ) (l : i < length ys) (z : Copying j n i run bs) where
    abbrev f : First (here i) (left (i + 1)) s run.at z.values n
    f = first j n i run bs l z

    abbrev bytes : List ℕ
    bytes = encode (here i) f.value

    abbrev others : List ℕ
    others = encode_row (left (i + 1)) f.others

    -- what is left to put: the value's bytes, and the others'
    parts : encode_row (left i) z.values ≡ bytes ++ others
    parts = ap (encode_row (left i)) (sym f.both) ∙ encodes i f.value f.others l

    parts_length : length (encode_row (left i) z.values) ≡ length bytes + length others
    parts_length = ap length parts ∙ length-append bytes others

    turn_fits : RunFits s (length bs) run (normal_value (here i) (drop run.at s))
    turn_fits = rw f.here (z.lies, f.inside, omega (arith, parts_length, z.count, z.fits, z.same))

    turn_goes : (next : Run) (after : List ℕ) → length after ≡ length out₀ → RunGrows s bs run (normal_value (here i) (drop run.at s)) after next
        → Copying j n (i + 1) next after
    turn_goes next after same g =
        let h : Grows s bs run bytes f.took-bytes after next = rw f.here at g in
        let m = next.put - run.put in
        let p : run.put + m ≡ next.put = omega (arith, h.onward) in
        let q : drop next.put bs ≡ drop next.put out₀ =
        ap (λ (k : ℕ). drop k bs) (sym p)
        ∙ (sym (drop-drop m run.put bs) ∙ (ap (drop m) z.behind ∙ (drop-drop m run.put out₀ ∙ ap (λ (k : ℕ). drop k out₀) p))) in
        record {
          values = f.others;
          reads = rw h.passed f.behind;
          joins =
              ap (λ (x : List ℕ). x ++ others) h.shows
              ∙ (append_assoc (shown s bs run) bytes others ∙ (ap (λ (x : List ℕ). shown s bs run ++ x) (sym parts) ∙ z.joins));
          behind = h.behind ∙ q;
          same = same;
          lies = h.lies;
          count = omega (arith, h.count, parts_length, z.count);
          fits = z.fits;
        }

  -- what a step asks
  pub copying_asks : (j : List ℕ) (n i : ℕ) (run : Run) (bs : List ℕ) (c : Column) → i < length ys → Copying j n i run bs
      → c ≡ get_or ys i no_column → RunFits s (length bs) run (normal_value (column_told [] c) (drop run.at s))
  copying_asks j n i run bs c l z e = rw e (turn_fits j n i run bs l z)

  -- what it leaves
  pub copying_next : (j : List ℕ) (n i : ℕ) (run next : Run) (bs after : List ℕ) (c : Column) → i < length ys
      → Copying j n i run bs → c ≡ get_or ys i no_column → length after ≡ length out₀
      → RunGrows s bs run (normal_value (column_told [] c) (drop run.at s)) after next → Copying j n (i + 1) next after
  copying_next j n i run next bs after c l z e same g = turn_goes j n i run bs l z next after same (rw e at g)

  -- behind the last turn nothing is left
  module _ (j : List ℕ) (n : ℕ) (run : Run) (bs : List ℕ) (z : Copying j n (length ys) run bs) where
    none_encoded : (vs : List Value) → encode_row (left (length ys)) vs ≡ []
    unfolding encode_row
    none_encoded vs = rw (none_left ys)

    all_shown : shown s bs run ≡ j
    all_shown = sym (append-nil (shown s bs run)) ∙ (ap (λ (x : List ℕ). shown s bs run ++ x) (sym (none_encoded z.values)) ∙ z.joins)

    run_inside : run.at ≤ length s
    run_inside = (took_at (read_values (left (length ys))) s run.at z.values n z.reads).0

    all_counted : run.put + (run.at - run.from) ≡ length j
    all_counted = omega (arith, z.count, ap length (none_encoded z.values))

    last-ends : put_at bs run.put (held s run) ≡ j ++ drop (length j) out₀
    unfolding put_at
    last-ends =
        let c = held s run in
        let k : run.put + length c ≡ length j = omega (arith, held-length s run z.lies run_inside, all_counted) in
        let d : drop (run.put + length c) bs ≡ drop (length j) out₀ =
        sym (drop-drop (length c) run.put bs)
        ∙ (ap (drop (length c)) z.behind ∙ (drop-drop (length c) run.put out₀ ∙ ap (λ (m : ℕ). drop m out₀) k)) in
        sym (append_assoc (take run.put bs) c (drop (run.put + length c) bs))
        ∙ (ap (λ (x : List ℕ). x ++ drop (run.put + length c) bs) all_shown ∙ ap (λ (x : List ℕ). j ++ x) d)

  -- what copying the last run asks
  pub copying_closes : (a : Read (List ℕ)) (run : Run) (bs : List ℕ) → Copied a (length ys) run bs
      → (run.from ≤ run.at) × (run.at ≤ length s) × (run.put + (run.at - run.from) ≤ length bs)
  copying_closes (took j n) run bs z = (z.lies, run_inside j n run bs z, omega (arith, all_counted j n run bs z, z.fits, z.same))
  copying_closes (stops x) run bs z = rw z.1 (omega arith, omega arith, omega arith)

  none_put : (run : Run) (bs : List ℕ) → run ≡ run_on 0 0 → put_at bs run.put (held s run) ≡ bs
  unfolding put_at
  none_put run bs e = rw e

  -- and what it leaves
  pub copying_ends : (a : Read (List ℕ)) (run : Run) (bs after : List ℕ) → Copied a (length ys) run bs
      → after ≡ put_at bs run.put (held s run) → after ≡ room_after_read (λ (x : List ℕ). x) a out₀
  unfolding room_after_read
  copying_ends (took j n) run bs after z e = e ∙ last-ends j n run bs z
  copying_ends (stops x) run bs after z e = e ∙ (none_put run bs z.1 ∙ z.0)

  -- a refusal leaves the room as it was
  pub copying_refused : (x : Refusal) → answer ≡ stops x → (stops x ≡ map_read length answer) × (out₀ ≡ room_after_read (λ (l : List ℕ). l) answer out₀)
  unfolding room_after_read
  copying_refused x h = rw h (refl, refl)
