-- What follows the type byte, by the type's family: which reader the definition goes on with at a place.
-- Assumes nothing.
use mathlib.Core.Path.{◌≡◌, refl, ap, ◌∙◌}
use mathlib.Core.List.{List}
use mathlib.Core.Bool.{false}
use Prim.Native.Nat.{ℕ, ◌≤◌}
use lib.ListN.{length}
use Rattle.format.specs.Answer.{Answer, gives, refuses, Refusal, not_carried, took, stops, then_read, read_at}
use Rattle.format.specs.Number.{read_byte}
use Rattle.format.specs.Descriptor.{TypeId, FixedLen, fixed_len, daten, xml, udt, ss_variant}
use Rattle.format.specs.Descriptor.{Column, plain, daten_length, type_of, read_schema, read_fields, read_typed, read_type}
use Rattle.format.proofs.Place.{at_left, at_stops}

module _ (t : TypeId) (s : List ℕ) (at : ℕ) where
  nothing : (v : Column) → at ≤ length s → read_at (λ (l : List ℕ). took v 0) s at ≡ took v at
  nothing v i = at_left false (λ (l : List ℕ). took v 0) v s at refl i

  pub fixed_fields : (f : FixedLen) → t ≡ fixed_len f → at ≤ length s → read_at (read_fields t) s at ≡ took (plain t 0) at
  fixed_fields f q i = rw q (nothing (plain (fixed_len f) 0) i)

  pub daten_fields : t ≡ daten → at ≤ length s → read_at (read_fields t) s at ≡ took (plain t daten_length) at
  daten_fields q i = rw q (nothing (plain daten daten_length) i)

  pub xml_fields : t ≡ xml → read_at (read_fields t) s at ≡ read_at (then_read read_byte read_schema) s at
  xml_fields q = rw q

  pub udt_fields : t ≡ udt → at ≤ length s → read_at (read_fields t) s at ≡ stops not_carried
  udt_fields q i = rw q (at_stops (read_fields udt) s at not_carried i refl)

  pub variant_fields : t ≡ ss_variant → at ≤ length s → read_at (read_fields t) s at ≡ stops not_carried
  variant_fields q i = rw q (at_stops (read_fields ss_variant) s at not_carried i refl)

module _ (b : ℕ) (s : List ℕ) (at : ℕ) where
  pub known-type : (t : TypeId) → type_of b ≡ gives t → read_at (read_type b) s at ≡ read_at (read_fields t) s at
  known-type t q = ap (λ (x : Answer TypeId). read_at (read_typed x) s at) q

  pub unknown-type : (e : Refusal) → type_of b ≡ refuses e → at ≤ length s → read_at (read_type b) s at ≡ stops e
  unknown-type e q i = ap (λ (x : Answer TypeId). read_at (read_typed x) s at) q ∙ at_stops (read_typed (refuses e)) s at e i refl
