-- A record is of one column: every column whose numbers fit their places packs to a record that stands for it, and every record that is let through is what the
-- column it stands for packs to. So "a record that no column packs to" is one that is not let through.
-- Assumes nothing.
use Rattle.std.specs.Prelude.{None, Option, Some}
use mathlib.Core.Path.{◌≡◌, sym, ap, ◌∙◌}
use mathlib.Core.Bool.{true}
use mathlib.Core.List.{List, [], ◌∷◌, ◌++◌}
use Prim.Native.Nat.{ℕ, zero, suc, ◌^◌, ◌<◌}
use native.Mathlib.Omega.{arith}
use lib.Dec.{ltb, eqb}
use borrow.Author.Tests.{ltb-true, eqb-true}
use Rattle.format.specs.Answer.{gives}
use Rattle.format.specs.Number.{low_nat, low_bytes}
use Rattle.format.specs.Descriptor.{TypeId, type_of, Collation, Schema, Column}
use Rattle.format.proofs.Number.{Bytes, low_back, low_forth}
use Rattle.format.proofs.DescriptorForm.{both_true, type_byte_lem, type_again}
use Rattle.packed.specs.Packed.{record_of, index_at, unused_zero, has_collation, has_schema, keeps_places, column_of}

-- ---- a column's record stands for it

-- the numbers fit their places, and the names are those beside the table
abbrev pub InPlace : Option Collation → Type 0
InPlace None = Unit {0}
InPlace (Some k) = k.info < 256 ^ 4

abbrev pub Beside : Option Schema → Schema → Type 0
Beside None names = Unit {0}
Beside (Some m) names = m ≡ names

abbrev column : TypeId → ℕ → ℕ → ℕ → Option Collation → Option Schema → Column
column t n p x k m = record { type = t; length = n; precision = p; scale = x; collation = k; schema = m }

module _ (t : TypeId) (n p x index : ℕ) (names : Schema) (l : n < 256 ^ 4) where
  packed : (k : Option Collation) (m : Option Schema) → InPlace k → Beside m names → column_of (record_of (column t n p x k m) index) names ≡ column t n p x k m
  unfolding column_of record_of keeps_places
  packed None None k m = rw (type_again t, low_back 4 n l)
  packed None (Some s) k m = rw (type_again t, low_back 4 n l, m)
  packed (Some c) None k m = rw (type_again t, low_back 4 n l, low_back 4 c.info k)
  packed (Some c) (Some s) k m = rw (type_again t, low_back 4 n l, low_back 4 c.info k, m)

pub unpacked : (c : Column) (index : ℕ) (names : Schema) → c.length < 256 ^ 4 → InPlace c.collation → Beside c.schema names
    → column_of (record_of c index) names ≡ c
unpacked c index names l k m = packed c.type c.length c.precision c.scale index names l c.collation c.schema k m

-- ---- a record that is let through is what its column packs to

-- bytes that nothing uses are zeros
zeros : (w : ℕ) (l : List ℕ) → low_bytes w (low_nat l) ≡ l → eqb (low_nat l) 0 ≡ true → low_bytes w 0 ≡ l
zeros w l f z = ap (low_bytes w) (sym (eqb-true (low_nat l) 0 z)) ∙ f

module _ (a p x n₀ n₁ n₂ n₃ k₀ k₁ k₂ k₃ k₄ z i₀ i₁ : ℕ) (names : Schema) (t : TypeId) (h : type_of a ≡ gives t) where
  abbrev bytes : ℕ → List ℕ
  bytes flags = a ∷ flags ∷ p ∷ x ∷ n₀ ∷ n₁ ∷ n₂ ∷ n₃ ∷ k₀ ∷ k₁ ∷ k₂ ∷ k₃ ∷ k₄ ∷ z ∷ i₀ ∷ i₁ ∷ []

  abbrev size : List ℕ
  size = n₀ ∷ n₁ ∷ n₂ ∷ n₃ ∷ []

  abbrev info : List ℕ
  info = k₀ ∷ k₁ ∷ k₂ ∷ k₃ ∷ []

  abbrev five : List ℕ
  five = k₀ ∷ k₁ ∷ k₂ ∷ k₃ ∷ k₄ ∷ []

  abbrev index : List ℕ
  index = i₀ ∷ i₁ ∷ []

  module _ (s : Bytes size) (f : Bytes five) (g : Bytes info) (i : Bytes index) where
    -- part by part
    parts : (flags : ℕ) {u v w : List ℕ} → u ≡ size → v ≡ five → w ≡ index
        → a ∷ flags ∷ p ∷ x ∷ (u ++ (v ++ (0 ∷ w))) ≡ a ∷ flags ∷ p ∷ x ∷ (size ++ (five ++ (0 ∷ index)))
    parts flags p q r = rw (p, q, r)

    collated : low_bytes 4 (low_nat info) ++ (k₄ ∷ []) ≡ five
    collated = ap (λ (u : List ℕ). u ++ (k₄ ∷ [])) (low_forth info g)

    again : (flags : ℕ) → ltb flags 4 ≡ true → z ≡ 0 → unused_zero (has_collation flags) five ≡ true → unused_zero (has_schema flags) index ≡ true
        → keeps_places (bytes flags) ≡ true → record_of (column_of (bytes flags) names) (index_at (bytes flags)) ≡ bytes flags
    unfolding record_of column_of
    again zero l e c d k = rw (k, h, type_byte_lem a t h, e) (parts 0 (low_forth size s) (zeros 5 five (low_forth five f) c)
        (zeros 2 index (low_forth index i) d))
    again (suc zero) l e c d k = rw (k, h, type_byte_lem a t h, e) (parts 1 (low_forth size s) collated (zeros 2 index (low_forth index i) d))
    again (suc (suc zero)) l e c d k =
        rw (k, h, type_byte_lem a t h, e) (parts 2 (low_forth size s) (zeros 5 five (low_forth five f) c) (low_forth index i))
    again (suc (suc (suc zero))) l e c d k = rw (k, h, type_byte_lem a t h, e) (parts 3 (low_forth size s) collated (low_forth index i))
    again (suc (suc (suc (suc m)))) l e c d k = absurd (omega (arith, ltb-true (suc (suc (suc (suc m)))) 4 l))

    pub packed_again : (flags : ℕ) → keeps_places (bytes flags) ≡ true → record_of (column_of (bytes flags) names) (index_at (bytes flags)) ≡ bytes flags
    unfolding keeps_places
    packed_again flags k =
        let u = both_true (ltb flags 4) _ k in
        let v = both_true (eqb z 0) _ u.1 in
        let w = both_true (unused_zero (has_collation flags) five) (unused_zero (has_schema flags) index) v.1 in
        again flags u.0 (eqb-true z 0 v.0) w.0 w.1 k
