-- Two canonical scalars that are told alike are one: what is told has one canonical scalar, `scalar_back`.
-- A float's bits say whether they are a NaN's, and that says which of the two cases tells them; the float is the one that they stand for. A GUID's sixteen
-- bytes are its two numbers, since eight bytes hold each. What the bits of a float are read as is canonical.
-- Assumes nothing.
use mathlib.Core.Path.{◌≡◌, refl, sym, ap, ◌∙◌}
use mathlib.Core.Bool.{Bool, true, false}
use mathlib.Core.List.{List}
use Prim.Native.Nat.{ℕ, ◌^◌, ◌<◌}
use lib.Ieee.{Format, Float, binary32, binary64, nan_bits, of_bits, to_bits}
use lib.ListN.{take, drop}
use Rattle.lists.specs.Pick.{pick}
use Rattle.lists.proofs.Split.{clash}
use Rattle.format.specs.Number.{high_nat, high_bytes}
use Rattle.format.specs.Scalar as S
use Rattle.format.proofs.Number.{high_back}
use Rattle.wire.specs.declared.Guid.{Guid}
use Rattle.wire.specs.Told.{guid_bytes}
use Rattle.bits.specs.declared.float.Float32.TheVariants as F32
use Rattle.bits.specs.declared.float.Float64.TheVariants as F64
use Rattle.bits.specs.Told.{float32_of, float64_of}
use Rattle.bits.proofs.Floats.{float32_back, float64_back}
use Rattle.value_kind.specs.declared.Scalar.{Scalar}
use Rattle.value_kind.specs.declared.Scalar.TheVariants as C
use Rattle.value_kind.specs.Told.{scalar_told, made32, made64, IsFloat, Canonical}

-- ---- the canonical scalar of what is told

abbrev guid_from : ℕ → ℕ → Guid
guid_from high low = record { high = high; low = low }

abbrev guid_of : List ℕ → Guid
guid_of s = guid_from (high_nat (take 8 s)) (high_nat (drop 8 s))

abbrev scalar_back : S.Scalar → Scalar
scalar_back (S.Scalar.bit b) = C.Bit b
scalar_back (S.Scalar.u8 n) = C.U8 n
scalar_back (S.Scalar.i16 z) = C.I16 z
scalar_back (S.Scalar.i32 z) = C.I32 z
scalar_back (S.Scalar.i64 z) = C.I64 z
scalar_back (S.Scalar.f32 n) = pick (nan_bits binary32 n) (C.F32Nan n) (C.F32 (of_bits binary32 n))
scalar_back (S.Scalar.f64 n) = pick (nan_bits binary64 n) (C.F64Nan n) (C.F64 (of_bits binary64 n))
scalar_back (S.Scalar.guid s) = C.Guid (guid_of s)

guid_back_lem : (g : Guid) → g.high < 256 ^ 8 → g.low < 256 ^ 8 → guid_of (guid_bytes g) ≡ g
guid_back_lem g h l =
    ap (λ (n : ℕ). guid_from n (high_nat (high_bytes 8 g.low))) (high_back 8 g.high h) ∙ ap (guid_from g.high) (high_back 8 g.low l)

canonical_back : (s : Scalar) → Canonical s → scalar_back (scalar_told s) ≡ s
canonical_back (C.Bit b) h = refl
canonical_back (C.U8 n) h = refl
canonical_back (C.I16 z) h = refl
canonical_back (C.I32 z) h = refl
canonical_back (C.I64 z) h = refl
canonical_back (C.F32 x) h = rw (h.0, h.1)
canonical_back (C.F32Nan n) h = rw h
canonical_back (C.F64 x) h = rw (h.0, h.1)
canonical_back (C.F64Nan n) h = rw h
canonical_back (C.Guid g) h = ap C.Guid (guid_back_lem g h.0 h.1)

pub canonical_one : (x y : Scalar) → Canonical x → Canonical y → scalar_told x ≡ scalar_told y → x ≡ y
canonical_one x y p q e = sym (canonical_back x p) ∙ (ap scalar_back e ∙ canonical_back y q)

-- ---- what the bits of a float are read as

-- the float of bits that are no NaN's has those bits
is_float : (f : Format) (n : ℕ) (x : Float) → nan_bits f n ≡ false → of_bits f n ≡ x → to_bits f (of_bits f n) ≡ n → (to_bits f x ≡ n) × IsFloat f x
is_float f n x t e b =
    let d : to_bits f x ≡ n = sym (ap (to_bits f) e) ∙ b in
    (d, (ap (nan_bits f) d ∙ t, ap (of_bits f) d ∙ e))

pub float32_read : (n : ℕ) → n < 2 ^ 32 → (scalar_told (made32 (float32_of n)) ≡ S.Scalar.f32 n) × Canonical (made32 (float32_of n))
float32_read n h = go (nan_bits binary32 n) refl
  where
    read : Bool → Scalar
    read b = made32 (pick b (F32.Nan n) (F32.Value (of_bits binary32 n)))

    go : (b : Bool) → nan_bits binary32 n ≡ b → (scalar_told (read b) ≡ S.Scalar.f32 n) × Canonical (read b)
    go true t = (refl, t)
    go false t =
        let p = is_float binary32 n (of_bits binary32 n) t refl (rw t at (float32_back n h)) in
        (ap S.Scalar.f32 p.0, p.1)

pub float64_read : (n : ℕ) → n < 2 ^ 64 → (scalar_told (made64 (float64_of n)) ≡ S.Scalar.f64 n) × Canonical (made64 (float64_of n))
float64_read n h = go (nan_bits binary64 n) refl
  where
    read : Bool → Scalar
    read b = made64 (pick b (F64.Nan n) (F64.Value (of_bits binary64 n)))

    go : (b : Bool) → nan_bits binary64 n ≡ b → (scalar_told (read b) ≡ S.Scalar.f64 n) × Canonical (read b)
    go true t = (refl, t)
    go false t =
        let p = is_float binary64 n (of_bits binary64 n) t refl (rw t at (float64_back n h)) in
        (ap S.Scalar.f64 p.0, p.1)
