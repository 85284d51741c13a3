-- The places of a record, test by test as the code asks them, and the column that is made of it.
-- Assumes nothing.
use mathlib.Core.Path.{◌≡◌}
use mathlib.Core.Bool.{true, false}
use mathlib.Core.List.{List}
use Prim.Native.Nat.{ℕ, ◌<◌, ◌≤◌}
use native.Mathlib.Omega.{arith}
use lib.ListN.{length, get_or, take, drop}
use borrow.Author.Tests.{lt-ltb, le-ltb, le-leb, lt-leb, eq-eqb, ne_eqb}
use Rattle.format.specs.Answer.{Refusal, gives, refuses}
use Rattle.format.specs.Descriptor.{both, type_of}
use Rattle.column_type.specs.declared.Name.{Name}
use Rattle.column_type.specs.declared.TypeId.{TypeId}
use Rattle.column_type.specs.Told.{type_told}
use Rattle.column_type.proofs.Decided.{type_undoes}
use Rattle.packed.specs.Packed.{flags_at, has_collation, has_schema, unused_zero, keeps_places}
use Rattle.packed.specs.Made.{fields_made, broken_made, column_made}

module _ (r : List ℕ) where
  -- fewer than 16 bytes
  pub short : length r < 16 → keeps_places r ≡ false
  unfolding keeps_places
  short l = rw (lt-leb 16 (length r) l)

  module _ (l : 16 ≤ length r) where
    -- another flag
    pub other_flag : 3 < flags_at r → false ≡ keeps_places r
    unfolding keeps_places
    other_flag h = rw (le-leb 16 (length r) l, le-ltb (flags_at r) 4 (omega (arith, h)))

    module _ (h : flags_at r ≤ 3) where
      -- the place that nothing uses
      pub not_zero : (get_or r 13 0 ≡ 0 → ⊥) → false ≡ keeps_places r
      unfolding keeps_places
      not_zero n = rw (le-leb 16 (length r) l, lt-ltb (flags_at r) 4 (omega (arith, h)), ne_eqb (get_or r 13 0) 0 n)

      -- the others
      pub others : get_or r 13 0 ≡ 0 → both (unused_zero (has_collation (flags_at r)) (take 5 (drop 8 r)))
          (unused_zero (has_schema (flags_at r)) (take 2 (drop 14 r))) ≡ keeps_places r
      unfolding keeps_places
      others n = rw (le-leb 16 (length r) l, lt-ltb (flags_at r) 4 (omega (arith, h)), eq-eqb (get_or r 13 0) 0 n)

    -- the collation's places, and the index's
    pub used_here : unused_zero (has_collation (flags_at r)) (take 5 (drop 8 r)) ≡ true → flags_at r ≤ 3 → get_or r 13 0 ≡ 0 →
        unused_zero (has_schema (flags_at r)) (take 2 (drop 14 r)) ≡ keeps_places r
    used_here u h n = rw u at others h n

    pub used_other : unused_zero (has_collation (flags_at r)) (take 5 (drop 8 r)) ≡ false → flags_at r ≤ 3 → get_or r 13 0 ≡ 0 → false ≡ keeps_places r
    used_other u h n = rw u at others h n

-- the column that is made of a record, as it was judged
module _ (r : List ℕ) (a b c : Name) where
  pub made_broken : keeps_places r ≡ false → broken_made ≡ column_made r a b c
  unfolding column_made
  made_broken h = rw h

  module _ (h : keeps_places r ≡ true) where
    pub made_unknown : (e : Refusal) → refuses e ≡ type_of (get_or r 0 0) → broken_made ≡ column_made r a b c
    unfolding column_made
    made_unknown e k = rw (h, ← k)

    pub made_typed : (t : TypeId) → gives (type_told t) ≡ type_of (get_or r 0 0) → fields_made t r a b c ≡ column_made r a b c
    unfolding column_made
    made_typed t k = rw (h, ← k, type_undoes t)
