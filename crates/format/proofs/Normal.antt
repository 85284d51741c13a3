-- Demand 3 of the definitions.
--
-- For every column list cs and every input s of bytes that begins with an accepted row, read_row cs s ≡ took vs n:
--   form:  the normal form of the row is encode_row cs vs;
--   reads: the normal form, with any bytes behind it, reads as the same values and ends where it ends,
--          read_row cs (encode_row cs vs ++ rest) ≡ took vs (length (encode_row cs vs));
--   own:   it is its own normal form, normal cs (encode_row cs vs ++ rest) ≡ took (encode_row cs vs) (length (encode_row cs vs));
--   short: it is never longer than the row, length (encode_row cs vs) ≤ n;
--   same:  the normal forms of two accepted rows are the same bytes exactly when the rows are the same, of the same kind and content in every column,
--          encode_row cs vs ≡ encode_row cs vs' ↔ vs ≡ vs'.
-- A value is its kind and content: a bit is its truth, a float its bits, a string its UTF-16LE bytes.
--
-- Why it holds: each column is a codec (Value.antt), and the row theorem (Codec.antt) holds of any columns that are. What is left is that a row
-- checks the number of its columns first.
-- Assumes nothing.
use mathlib.Core.Path.{◌≡◌, refl, ap, sym, ◌∙◌}
use mathlib.Core.Logic.{◌↔◌}
use mathlib.Core.List.{List, [], ◌∷◌, ◌++◌}
use mathlib.Core.Bool.{false}
use Prim.Native.Nat.{ℕ, ◌≤◌}
use native.Mathlib.Omega.{arith}
use lib.ListN.{length}
use lib.Dec.{ltb}
use borrow.Author.Tests.{ltb-false, le-ltb}
use Rattle.format.specs.Answer.{Read, took, rule, then_read, map_read}
use Rattle.format.specs.Descriptor.{Column}
use Rattle.format.specs.Value.{Value, read_value, encode}
use Rattle.format.specs.Row.{max_columns, cons_read, read_values, read_row}
use Rattle.format.specs.Normal.{encode_row, normal}
use Rattle.format.proofs.Number.{Bytes}
use Rattle.format.proofs.Place.{past, map-took}
use Rattle.format.proofs.Codec.{read_all, write_all, FitAll, growth_all, row_again, row_fits, row-short, row_same}
use Rattle.format.proofs.Value.{Fit, growth, column}

pub record NormalForm (cs : List Column) (s : List ℕ) (vs : List Value) (n : ℕ) : Type 0 where
  pub form : normal cs s ≡ took (encode_row cs vs) n
  pub reads : (rest : List ℕ) → read_row cs (encode_row cs vs ++ rest) ≡ took vs (length (encode_row cs vs))
  pub own : (rest : List ℕ) → normal cs (encode_row cs vs ++ rest) ≡ took (encode_row cs vs) (length (encode_row cs vs))
  pub short : length (encode_row cs vs) ≤ n
  pub same : (s' : List ℕ) (vs' : List Value) (n' : ℕ) → Bytes s' → read_row cs s' ≡ took vs' n' → (encode_row cs vs ≡ encode_row cs vs') ↔ (vs ≡ vs')

-- ---- a row is the codecs of its columns

values_all : (cs : List Column) → read_values cs ≡ read_all read_value cs
unfolding read_values read_all
values_all [] = refl
values_all (c ∷ cs) = ap {B = List ℕ → Read (List Value)} (λ r s. then_read (read_value c) (cons_read r) s) (values_all cs)

encode_all : (cs : List Column) (vs : List Value) → encode_row cs vs ≡ write_all encode cs vs
unfolding encode_row write_all
encode_all [] vs = refl
encode_all (c ∷ cs) [] = refl
encode_all (c ∷ cs) (v ∷ vs) = ap (λ (l : List ℕ). encode c v ++ l) (encode_all cs vs)

-- no column grows
no_growth : (cs : List Column) → growth_all growth cs ≡ 0
no_growth [] = refl
no_growth (c ∷ cs) = omega (arith, no_growth cs)

-- A row that can be written: not too many columns, and values that fit them.
abbrev pub FitRow : List Column → List Value → Type 0
FitRow cs vs = (length cs ≤ max_columns) × FitAll Fit cs vs

module _ (cs : List Column) where
  -- what a row took
  values-took : (s : List ℕ) (vs : List Value) (n : ℕ) → read_row cs s ≡ took vs n → (length cs ≤ max_columns) × (read_all read_value cs s ≡ took vs n)
  unfolding read_row
  values-took s vs n h =
      let p = past (ltb max_columns (length cs)) rule (read_values cs s) vs n h in
      (ltb-false max_columns (length cs) p.0, rw (values_all cs) at p.1)

  pub fits : (s : List ℕ) (vs : List Value) (n : ℕ) → Bytes s → read_row cs s ≡ took vs n → FitRow cs vs
  fits s vs n b h = let p = values-took s vs n h in (p.0, row_fits column cs s vs n b p.1)

  pub reads : (vs : List Value) (rest : List ℕ) → FitRow cs vs → read_row cs (encode_row cs vs ++ rest) ≡ took vs (length (encode_row cs vs))
  unfolding read_row
  reads vs rest f =
      let t : ltb max_columns (length cs) ≡ false = le-ltb max_columns (length cs) f.0 in
      rw (t, values_all cs, encode_all cs vs) (row_again column cs vs rest f.1)

  pub own : (vs : List Value) (rest : List ℕ) → FitRow cs vs → normal cs (encode_row cs vs ++ rest) ≡ took (encode_row cs vs) (length (encode_row cs vs))
  unfolding normal
  own vs rest f = ap (map_read (encode_row cs)) (reads vs rest f)

  same_values : (vs ws : List Value) → FitRow cs vs → FitRow cs ws → encode_row cs vs ≡ encode_row cs ws → vs ≡ ws
  same_values vs ws f g e = row_same column cs vs ws f.1 g.1 (sym (encode_all cs vs) ∙ (e ∙ encode_all cs ws))

  never_longer : (s : List ℕ) (vs : List Value) (n : ℕ) → Bytes s → read_row cs s ≡ took vs n → length (encode_row cs vs) ≤ n
  never_longer s vs n b h =
      let p = values-took s vs n h in
      rw (encode_all cs vs) (omega (arith, row-short column cs s vs n b p.1, no_growth cs))

-- ---- demand 3

pub normal-form : (cs : List Column) (s : List ℕ) (vs : List Value) (n : ℕ) → Bytes s → read_row cs s ≡ took vs n → NormalForm cs s vs n
unfolding normal
normal-form cs s vs n b h =
    let f = fits cs s vs n b h in
    record {
      form = ap (map_read (encode_row cs)) h;
      reads = λ rest. reads cs vs rest f;
      own = λ rest. own cs vs rest f;
      short = never_longer cs s vs n b h;
      same = λ s' vs' n' b' h'. (same_values cs vs vs' f (fits cs s' vs' n' b' h'), ap (encode_row cs));
    }

-- whatever has a normal form was read, and the normal form is of what was read
pub normal-took : (cs : List Column) (s b : List ℕ) (n : ℕ) → normal cs s ≡ took b n → (vs : List Value) × (read_row cs s ≡ took vs n) × (encode_row cs vs ≡ b)
unfolding normal
normal-took cs s b n h = map-took (encode_row cs) (read_row cs s) b n h
