-- "Fixed: the bytes alone": values under a fixed type, `fixed n k` for every kind k. A value fits where it is a scalar of the kind, in its range; no null does.
-- It is the scalars' codec with the value's name around it.
-- Assumes nothing.
use Rattle.std.specs.Prelude.{Some}
use mathlib.Core.Path.{◌≡◌, ap}
use mathlib.Core.List.{List, ◌++◌}
use Prim.Native.Nat.{ℕ, ◌+◌, ◌≤◌}
use lib.ListN.{length}
use Rattle.format.specs.Answer.{took, map_read}
use Rattle.format.specs.Scalar.{Kind, Scalar, read_scalar}
use Rattle.format.specs.Value.{Value, fixed_width, read_family, encode_in}
use Rattle.format.proofs.Number.{Bytes}
use Rattle.format.proofs.Place.{map-took}
use Rattle.format.proofs.Codec.{Codec}
use Rattle.format.proofs.Scalar as Scalars

pub data Fixed (k : Kind) : Value → Type 0 where
  scalar : (x : Scalar) → Scalars.Fit k x → Fixed k (Value.scalar x)

module _ (n : ℕ) (k : Kind) where
  fixed_again : (v : Value) (rest : List ℕ) → Fixed k v →
      read_family n (Some (fixed_width k)) (encode_in n (fixed_width k) v ++ rest) ≡ took v (length (encode_in n (fixed_width k) v))
  fixed_again v rest (scalar x f) = ap (map_read Value.scalar) ((Scalars.codec k).again x rest f)

  fixed_fits : (s : List ℕ) (v : Value) (m : ℕ) → Bytes s → read_family n (Some (fixed_width k)) s ≡ took v m → Fixed k v
  fixed_fits s v m b h =
      let p = map-took Value.scalar (read_scalar k s) v m h in
      rw (← p.2) (scalar p.0 ((Scalars.codec k).fits s p.0 m b p.1))

  fixed-short : (s : List ℕ) (v : Value) (m : ℕ) → Bytes s → read_family n (Some (fixed_width k)) s ≡ took v m → length (encode_in n (fixed_width k) v) ≤ m + 0
  fixed-short s v m b h =
      let p = map-took Value.scalar (read_scalar k s) v m h in
      rw (← p.2) ((Scalars.codec k).short s p.0 m b p.1)

  pub fixed : Codec (read_family n (Some (fixed_width k))) (encode_in n (fixed_width k)) (Fixed k) 0
  fixed = record { again = fixed_again; fits = fixed_fits; short = fixed-short }
