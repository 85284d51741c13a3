-- Rows of any columns, whatever a column is: what holds of each column's reader and writer holds of the row's.
--
-- A column's codec is its reader, its writer, what the writer takes (Fit) and by how many bytes a value may grow when it is written again, with three laws:
--   again: what was written, with any bytes behind it, reads as the value and ends where it ends;
--   fits:  what was read of bytes can be written;
--   short: written again it is no longer than what was read, but for the growth.
-- The row theorems (row_again, row_fits, row-short, row_same) are one induction each over the column list, and know no family of columns.
-- Assumes nothing.
use mathlib.Core.Path.{◌≡◌, refl, ap}
use mathlib.Core.List.{List, [], ◌∷◌, ◌++◌, append_assoc}
use Prim.Native.Nat.{ℕ, ◌+◌, ◌≤◌}
use native.Mathlib.Omega.{arith}
use lib.ListN.{length, drop, length-append}
use lib.Seq.{drop-append_seam}
use Rattle.format.specs.Answer.{Read, took, then_read, map_read}
use Rattle.format.specs.Row.{cons_read}
use Rattle.format.proofs.Number.{Bytes}
use Rattle.format.proofs.Place.{map-took, then_took}
use Rattle.format.proofs.Plain.{bytes_drop}

-- ---- one reader behind another, on what one writer wrote behind another

module _ {A B : Type 0} (reader : List ℕ → Read A) (next : A → List ℕ → Read B) where
  pub then_again : (first second rest : List ℕ) (a : A) (b : B) →
      ((more : List ℕ) → reader (first ++ more) ≡ took a (length first)) →
      next a (second ++ rest) ≡ took b (length second) →
      then_read reader next ((first ++ second) ++ rest) ≡ took b (length (first ++ second))
  unfolding then_read
  then_again first second rest a b p q =
      let e = p (second ++ rest) in
      simp (append_assoc, e, drop-append_seam, q, length-append)

-- ---- a column

pub record Codec {X : Type 0} (read : List ℕ → Read X) (write : X → List ℕ) (Fit : X → Type 0) (growth : ℕ) : Type 0 where
  pub again : (v : X) (rest : List ℕ) → Fit v → read (write v ++ rest) ≡ took v (length (write v))
  pub fits : (s : List ℕ) (v : X) (n : ℕ) → Bytes s → read s ≡ took v n → Fit v
  pub short : (s : List ℕ) (v : X) (n : ℕ) → Bytes s → read s ≡ took v n → length (write v) ≤ n + growth

-- ---- a row: one column after another

module _ {T X : Type 0} (read : T → List ℕ → Read X) where
  unfoldable pub read_all : List T → List ℕ → Read (List X)
  read_all [] s = took [] 0
  read_all (t ∷ ts) s = then_read (read t) (cons_read (read_all ts)) s

module _ {T X : Type 0} (write : T → X → List ℕ) where
  unfoldable pub write_all : List T → List X → List ℕ
  write_all [] vs = []
  write_all (t ∷ ts) [] = []
  write_all (t ∷ ts) (v ∷ vs) = write t v ++ write_all ts vs

module _ {T X : Type 0} (Fit : T → X → Type 0) where
  abbrev pub FitAll : List T → List X → Type 0
  FitAll [] [] = Unit {0}
  FitAll [] (v ∷ vs) = ⊥
  FitAll (t ∷ ts) [] = ⊥
  FitAll (t ∷ ts) (v ∷ vs) = Fit t v × FitAll ts vs

module _ {T : Type 0} (growth : T → ℕ) where
  abbrev pub growth_all : List T → ℕ
  growth_all [] = 0
  growth_all (t ∷ ts) = growth t + growth_all ts

-- what a row took: the first column's value, and what the others took of the rest
row-took : {T X : Type 0} (read : T → List ℕ → Read X) (t : T) (ts : List T) (s : List ℕ) (vs : List X) (n : ℕ) →
    then_read (read t) (cons_read (read_all read ts)) s ≡ took vs n →
    (v : X) × (ws : List X) × (k : ℕ) × (m : ℕ) × (read t s ≡ took v k) × (read_all read ts (drop k s) ≡ took ws m) × (v ∷ ws ≡ vs) × (k + m ≡ n)
row-took read t ts s vs n h =
    let p = then_took (read t) (cons_read (read_all read ts)) s vs n h in
    let q = map-took (◌∷◌ p.0) (read_all read ts (drop p.1 s)) vs p.2 p.4 in
    (p.0, q.0, p.1, p.2, p.3, q.1, q.2, p.5)

module _ {T X : Type 0} {read : T → List ℕ → Read X} {write : T → X → List ℕ} {Fit : T → X → Type 0} {growth : T → ℕ}
    (codec : (t : T) → Codec (read t) (write t) (Fit t) (growth t)) where
  -- the row's bytes, with anything behind them, read as the values and end where they end
  pub row_again : (ts : List T) (vs : List X) (rest : List ℕ) → FitAll Fit ts vs →
      read_all read ts (write_all write ts vs ++ rest) ≡ took vs (length (write_all write ts vs))
  unfolding read_all write_all
  row_again [] [] rest f = refl
  row_again (t ∷ ts) (v ∷ vs) rest f =
      then_again (read t) (cons_read (read_all read ts)) (write t v) (write_all write ts vs) rest v (v ∷ vs)
      (λ more. (codec t).again v more f.0)
      (ap (map_read (◌∷◌ v)) (row_again ts vs rest f.1))
  row_again [] (v ∷ vs) rest f = elim f [ ]
  row_again (t ∷ ts) [] rest f = elim f [ ]

  -- what was read of bytes can be written
  pub row_fits : (ts : List T) (s : List ℕ) (vs : List X) (n : ℕ) → Bytes s → read_all read ts s ≡ took vs n → FitAll Fit ts vs
  unfolding read_all
  row_fits [] s vs n b h = let p : [] ≡ vs = cc in rw (← p) tt
  row_fits (t ∷ ts) s vs n b h =
      let p = row-took read t ts s vs n h in
      rw (← p.6) ((codec t).fits s p.0 p.2 b p.4, row_fits ts (drop p.2 s) p.1 p.3 (bytes_drop p.2 s b) p.5)

  -- written again it is no longer, but for the columns' growth
  pub row-short : (ts : List T) (s : List ℕ) (vs : List X) (n : ℕ) → Bytes s → read_all read ts s ≡ took vs n →
      length (write_all write ts vs) ≤ n + growth_all growth ts
  unfolding read_all write_all
  row-short [] s vs n b h = omega arith
  row-short (t ∷ ts) s vs n b h =
      let p = row-took read t ts s vs n h in
      let i = (codec t).short s p.0 p.2 b p.4 in
      let j = row-short ts (drop p.2 s) p.1 p.3 (bytes_drop p.2 s b) p.5 in
      let l = length-append (write t p.0) (write_all write ts p.1) in
      let e = p.7 in
      rw (← p.6) (omega arith)

  -- equal bytes, equal values
  pub row_same : (ts : List T) (vs ws : List X) → FitAll Fit ts vs → FitAll Fit ts ws → write_all write ts vs ≡ write_all write ts ws → vs ≡ ws
  row_same ts vs ws f g e =
      let a = row_again ts vs [] f in
      let b = row_again ts ws [] g in
      let p = ap (λ (l : List ℕ). read_all read ts (l ++ [])) e in
      cc
