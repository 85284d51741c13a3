-- A value under a column: rule 6 first, then the column's family; a length that keeps the rule fits four bytes.
-- Assumes nothing.
use Rattle.std.specs.Prelude.{Option}
use mathlib.Core.Path.{◌≡◌, ◌∙◌}
use mathlib.Core.Bool.{true, false}
use mathlib.Core.List.{List}
use Prim.Native.Nat.{ℕ, ◌<◌, ◌≤◌, ◌^◌}
use native.Mathlib.Omega.{arith}
use lib.ListN.{length, drop}
use borrow.Author.Tests.{ltb-true, eqb-true}
use Rattle.format.specs.Answer.{refuses, stops, rule, further, read_at}
use Rattle.format.specs.Descriptor.{TypeId, fixed_len, byte_len, u_short_len, long_len, daten, xml, udt, ss_variant, Column, length_fits, keeps_rule}
use Rattle.format.specs.Value.{Given, Family, family_of, read_family, read_value, write_family, write_value}
use Rattle.format.proofs.DescriptorForm.{both_true}
use Rattle.format.proofs.Place.{at_inside, at_stops}

length-below : (t : TypeId) (n : ℕ) → length_fits t n ≡ true → n < 256 ^ 4
length-below (fixed_len t) n h = let e = eqb-true n 0 h in omega arith
length-below (byte_len t) n h = let e = ltb-true n (256 ^ 1) h in omega arith
length-below (u_short_len t) n h = let e = ltb-true n (256 ^ 2) h in omega arith
length-below (long_len t) n h = ltb-true n (256 ^ 4) h
length-below daten n h = let e = eqb-true n 3 h in omega arith
length-below xml n h = let e = eqb-true n 0 h in omega arith
length-below udt n h = let e = eqb-true n 0 h in omega arith
length-below ss_variant n h = let e = eqb-true n 0 h in omega arith

module _ (c : Column) where
  pub length_fits_lem : keeps_rule c ≡ true → c.length < 256 ^ 4
  unfolding keeps_rule
  length_fits_lem h = length-below c.type c.length (both_true (length_fits c.type c.length) _ h).0

  pub rule-kept : (g : Given) → keeps_rule c ≡ true → write_value c g ≡ write_family c.length (family_of c.type) g
  unfolding write_value
  rule-kept g h = rw h

  pub rule-broken : (g : Given) → keeps_rule c ≡ false → write_value c g ≡ refuses rule
  unfolding write_value
  rule-broken g h = rw h

-- ---- read at a place inside the input

module _ (c : Column) (s : List ℕ) (at : ℕ) (h : at ≤ length s) where
  pub read-broken : keeps_rule c ≡ false → read_at (read_value c) s at ≡ stops rule
  unfolding read_value
  read-broken k = at_stops (read_value c) s at rule h (rw k)

  -- what is read of the rest, under the column's family and declared length
  pub read_kept : keeps_rule c ≡ true → (declared : ℕ) (f : Option Family) (rest : List ℕ) → c.length ≡ declared → f ≡ family_of c.type → rest ≡ drop at s
      → read_at (read_value c) s at ≡ further at (read_family declared f rest)
  unfolding read_value
  read_kept k declared f rest l g r = at_inside (read_value c) s at h ∙ rw (k, l, ← g, ← r)
