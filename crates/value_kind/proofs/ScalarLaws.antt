-- The bytes of a value of a fixed width: the low bytes of its number, but for a GUID; as many as its kind is wide.
-- Assumes nothing.
use Rattle.std.specs.Prelude.{Some}
use mathlib.Core.Path.{◌≡◌, refl, sym, ap, ◌∙◌}
use mathlib.Core.Bool.{Bool, true, false, not}
use mathlib.Core.List.{List, ◌∷◌}
use Prim.Native.Nat.{ℕ, suc, ◌+◌, ◌≤◌, ◌<◌}
use native.Mathlib.Omega.{arith}
use lib.ListN.{length}
use lib.Dec.{ltb, lit≤, lit<, eqb-suc-suc}
use denote.Enum.Bare.{sameb}
use denote.Enum.Declared.{tag_of}
use Rattle.lists.specs.Pick.{pick}
use Rattle.format.specs.Answer.{Answer, gives, Refusal, kind, long, refuse_if, wrote}
use Rattle.format.specs.Number.{low_bytes}
use Rattle.format.specs.Descriptor.{byte_len_byte}
use Rattle.format.specs.Scalar as S
use Rattle.format.specs.Scalar.{width, kind_of, place, scalar_bytes, same_kind, is_one_of}
use Rattle.format.specs.Value.{Given, fixed_width, length_byte, write_family, untyped_type, write_untyped}
use Rattle.format.proofs.Scalar.{length-guid}
use Rattle.wire.specs.declared.Guid.{Guid}
use Rattle.wire.specs.Told.{guid_bytes}
use Rattle.value_kind.specs.declared.Scalar.{Scalar}
use Rattle.value_kind.specs.declared.Scalar.TheVariants as C
use Rattle.value_kind.specs.contracts.kinds.Kind.{the_type}
use Rattle.value_kind.specs.declared.kinds.Kind.{Kind as K}
use Rattle.value_kind.specs.declared.kinds.Kind.TheVariants as KV
use Rattle.value_kind.specs.Told.{kind_told, scalar_told, number_of}
use Rattle.wire.proofs.Writing.{check_passed}

-- a list of one
pub only : (b : Bool) → b ≡ pick b true false
only true = refl
only false = refl

pub low_bytes_lem : (s : Scalar) → ((g : Guid) → s ≡ C.Guid g → ⊥) → scalar_bytes (scalar_told s) ≡ low_bytes (width (kind_of (scalar_told s)))
    (number_of (scalar_told s))
unfolding scalar_bytes
low_bytes_lem (C.Bit true) h = refl
low_bytes_lem (C.Bit false) h = refl
low_bytes_lem (C.U8 n) h = refl
low_bytes_lem (C.I16 z) h = refl
low_bytes_lem (C.I32 z) h = refl
low_bytes_lem (C.I64 z) h = refl
low_bytes_lem (C.F32 x) h = refl
low_bytes_lem (C.F32Nan n) h = refl
low_bytes_lem (C.F64 x) h = refl
low_bytes_lem (C.F64Nan n) h = refl
low_bytes_lem (C.Guid g) h = absurd (h g refl)

pub length-bytes : (s : Scalar) → length (scalar_bytes (scalar_told s)) ≡ width (kind_of (scalar_told s))
unfolding scalar_bytes
length-bytes (C.Bit b) = refl
length-bytes (C.U8 n) = refl
length-bytes (C.I16 z) = refl
length-bytes (C.I32 z) = refl
length-bytes (C.I64 z) = refl
length-bytes (C.F32 x) = refl
length-bytes (C.F32Nan n) = refl
length-bytes (C.F64 x) = refl
length-bytes (C.F64Nan n) = refl
length-bytes (C.Guid g) = length-guid (guid_bytes g)

-- a derived `==` tells whether two kinds are the same in `format`
place_tag : (k : K) → place (kind_told k) ≡ suc (tag_of the_type k)
place_tag KV.Bit = refl
place_tag KV.U8 = refl
place_tag KV.I16 = refl
place_tag KV.I32 = refl
place_tag KV.I64 = refl
place_tag KV.F32 = refl
place_tag KV.F64 = refl
place_tag KV.Guid = refl

pub same_kinds : (j k : K) → sameb the_type j k ≡ same_kind (kind_told j) (kind_told k)
same_kinds j k = rw (place_tag j, place_tag k) (sym (eqb-suc-suc (tag_of the_type j) (tag_of the_type k)))

-- ---- under a family

-- an answer's count: a refusal passes
pub wrote_if : (b : Bool) (e : Refusal) (a : Answer (List ℕ)) → wrote (refuse_if b e a) ≡ refuse_if b e (wrote a)
unfolding wrote
wrote_if true e a = refl
wrote_if false e a = refl

module _ (d : ℕ) (s : Scalar) where
  pub fixed-scalar : (k : S.Kind) →
      wrote (write_family d (Some (fixed_width k)) (Given.scalar (scalar_told s)))
      ≡ refuse_if (not (same_kind (kind_of (scalar_told s)) k)) kind (gives (width (kind_of (scalar_told s))))
  unfolding wrote
  fixed-scalar k = wrote_if (not (same_kind (kind_of (scalar_told s)) k)) kind (gives (scalar_bytes (scalar_told s))) ∙ rw (length-bytes s)

  pub listed-scalar : (ks : List S.Kind) →
      wrote (write_family d (Some (length_byte ks)) (Given.scalar (scalar_told s)))
      ≡ refuse_if (not (is_one_of ks (kind_of (scalar_told s)))) kind
      (refuse_if (ltb d (width (kind_of (scalar_told s)))) long (gives (1 + width (kind_of (scalar_told s)))))
  unfolding wrote
  listed-scalar ks =
      let v = scalar_told s in
      let n : suc (width (kind_of v)) ≡ 1 + width (kind_of v) = omega arith in
      wrote_if (not (is_one_of ks (kind_of v))) kind (refuse_if (ltb d (width (kind_of v))) long (gives (width (kind_of v) ∷ scalar_bytes v)))
      ∙ ap (refuse_if (not (is_one_of ks (kind_of v))) kind)
      (wrote_if (ltb d (width (kind_of v))) long (gives (width (kind_of v) ∷ scalar_bytes v)) ∙ rw (length-bytes s, n))

  -- what can be written has passed its checks
  pub fixed-written : (k : S.Kind) (n : ℕ) → gives n ≡ wrote (write_family d (Some (fixed_width k)) (Given.scalar (scalar_told s))) →
      write_family d (Some (fixed_width k)) (Given.scalar (scalar_told s)) ≡ gives (scalar_bytes (scalar_told s))
  fixed-written k n h = check_passed (not (same_kind (kind_of (scalar_told s)) k)) kind (gives (scalar_bytes (scalar_told s))) n h

  pub listed-written : (ks : List S.Kind) (n : ℕ) → gives n ≡ wrote (write_family d (Some (length_byte ks)) (Given.scalar (scalar_told s))) →
      write_family d (Some (length_byte ks)) (Given.scalar (scalar_told s)) ≡ gives (width (kind_of (scalar_told s)) ∷ scalar_bytes (scalar_told s))
  listed-written ks n h =
      let v = scalar_told s in
      let long-checked = refuse_if (ltb d (width (kind_of v))) long (gives (width (kind_of v) ∷ scalar_bytes v)) in
      let e = check_passed (not (is_one_of ks (kind_of v))) kind long-checked n h in
      e ∙ check_passed (ltb d (width (kind_of v))) long (gives (width (kind_of v) ∷ scalar_bytes v)) n (h ∙ ap wrote e)

-- ---- without a type

pub untyped_bytes : (s : Scalar) → let v =
    scalar_told s in write_untyped (Given.scalar v) ≡ gives (byte_len_byte (untyped_type (kind_of v)) ∷ width (kind_of v) ∷ width (kind_of v) ∷ scalar_bytes v)
unfolding write_untyped
untyped_bytes s = refl

pub untyped_scalar : (s : Scalar) → wrote (write_untyped (Given.scalar (scalar_told s))) ≡ gives (3 + width (kind_of (scalar_told s)))
unfolding wrote write_untyped
untyped_scalar s =
    let n : suc (suc (suc (width (kind_of (scalar_told s))))) ≡ 3 + width (kind_of (scalar_told s)) = omega arith in
    rw (length-bytes s, n)

pub width_most : (k : S.Kind) → width k ≤ 16
width_most S.Kind.bit = lit≤ tt
width_most S.Kind.u8 = lit≤ tt
width_most S.Kind.i16 = lit≤ tt
width_most S.Kind.i32 = lit≤ tt
width_most S.Kind.i64 = lit≤ tt
width_most S.Kind.f32 = lit≤ tt
width_most S.Kind.f64 = lit≤ tt
width_most S.Kind.guid = lit≤ tt

pub width_some : (k : S.Kind) → 0 < width k
width_some S.Kind.bit = lit< tt
width_some S.Kind.u8 = lit< tt
width_some S.Kind.i16 = lit< tt
width_some S.Kind.i32 = lit< tt
width_some S.Kind.i64 = lit< tt
width_some S.Kind.f32 = lit< tt
width_some S.Kind.f64 = lit< tt
width_some S.Kind.guid = lit< tt
