-- A NaN that a number stands for has that number's bits, for every number.
-- Assumes nothing.
use mathlib.Core.Path.{◌≡◌, refl, ap, ◌∙◌}
use mathlib.Core.Bool.{Bool, true, false}
use Prim.Native.Nat.{ℕ}
use lib.Ieee.{binary32, binary64, nan_bits}
use Rattle.lists.proofs.Split.{clash}
use Rattle.bits.specs.declared.float.Float32.TheVariants as F32
use Rattle.bits.specs.declared.float.Float64.TheVariants as F64
use Rattle.bits.specs.Told.{float32_of, float64_of}
use Rattle.value_kind.specs.declared.Scalar.TheVariants as C
use Rattle.value_kind.specs.Told.{Canonical}

pub float32_nan : (n m : ℕ) → F32.Nan m ≡ float32_of n → (m ≡ n) × Canonical (C.F32Nan m)
float32_nan n m e = go (nan_bits binary32 n) refl
  where
    go : (b : Bool) → nan_bits binary32 n ≡ b → (m ≡ n) × (nan_bits binary32 m ≡ true)
    go true t = let q : m ≡ n = cc (rw t at e) in (q, ap (nan_bits binary32) q ∙ t)
    go false t = clash (cc (rw t at e))

pub float64_nan : (n m : ℕ) → F64.Nan m ≡ float64_of n → (m ≡ n) × Canonical (C.F64Nan m)
float64_nan n m e = go (nan_bits binary64 n) refl
  where
    go : (b : Bool) → nan_bits binary64 n ≡ b → (m ≡ n) × (nan_bits binary64 m ≡ true)
    go true t = let q : m ≡ n = cc (rw t at e) in (q, ap (nan_bits binary64) q ∙ t)
    go false t = clash (cc (rw t at e))
