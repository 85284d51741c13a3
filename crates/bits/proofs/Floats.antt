-- Floats and their patterns, for both formats.
-- Assumes nothing.
use mathlib.Core.Path.{◌≡◌, refl, sym, ◌∙◌, subst, subst⁻¹}
use mathlib.Core.Bool.{Bool, true, false, not}
use Prim.Native.Nat.{ℕ, ◌*◌, ◌%◌, ◌^◌, ◌<◌, ◌≤◌}
use lib.Dec.{T}
use lib.Ieee.{Format, binary32, binary64, Float, nan, inf, fin, ones, hid, top, is_nan, nan_bits, of_bits, to_bits}
use lib.Ieee.Bits.{nan_bits_above, nan_bits_is, to_bits-of_bits}
use Rattle.format.proofs.Answer.{no_truth}
use Rattle.bits.specs.declared.float.Float32.{Float32}
use Rattle.bits.specs.declared.float.Float32.TheVariants as F32
use Rattle.bits.specs.declared.float.Float64.{Float64}
use Rattle.bits.specs.declared.float.Float64.TheVariants as F64
use Rattle.bits.specs.Told.{float32_of, float32_bits, float64_of, float64_bits}
use borrow.Author.Tests.{lt-ltb, le-ltb}

-- the code's test, with the sign's bit taken off
pub nan_yes : (f : Format) (n : ℕ) → ones f * hid f < n % top f → nan_bits f n ≡ true
nan_yes f n h = nan_bits_above f n ∙ lt-ltb _ _ h

pub nan_no : (f : Format) (n : ℕ) → n % top f ≤ ones f * hid f → nan_bits f n ≡ false
nan_no f n h = nan_bits_above f n ∙ le-ltb _ _ h

pub no_nan : (f : Format) (n : ℕ) → n % top f ≤ ones f * hid f → T (not (nan_bits f n))
no_nan f n h = subst⁻¹ (λ (b : Bool). T (not b)) (nan_no f n h) tt

-- a NaN that is handed over as a value has the quiet NaN's pattern
quiet : (x : Float) → is_nan x ≡ true → x ≡ nan
unfolding is_nan
quiet nan h = refl
quiet (inf s) h = no_truth h
quiet (fin s m e) h = no_truth h

pub quiet32 : (x : Float32) (v : Float) → x ≡ F32.Value v → is_nan v ≡ true → 0x7FC00000 ≡ float32_bits x
unfolding to_bits
quiet32 x v e h = rw (e, quiet v h)

pub quiet64 : (x : Float64) (v : Float) → x ≡ F64.Value v → is_nan v ≡ true → 0x7FF8000000000000 ≡ float64_bits x
unfolding to_bits
quiet64 x v e h = rw (e, quiet v h)

-- ---- bits, value, bits: every pattern comes back, a NaN's too

not_nan : (f : Format) (n : ℕ) → nan_bits f n ≡ false → T (not (is_nan (of_bits f n)))
not_nan f n e = subst (λ (b : Bool). T (not b)) (sym e ∙ nan_bits_is f n) tt

pub float32_back : (n : ℕ) → n < 2 ^ 32 → float32_bits (float32_of n) ≡ n
float32_back n h = go (nan_bits binary32 n) refl
  where
    go : (b : Bool) → nan_bits binary32 n ≡ b → float32_bits (float32_of n) ≡ n
    go true e = rw e
    go false e = rw e (to_bits-of_bits binary32 n h (not_nan binary32 n e))

pub float64_back : (n : ℕ) → n < 2 ^ 64 → float64_bits (float64_of n) ≡ n
float64_back n h = go (nan_bits binary64 n) refl
  where
    go : (b : Bool) → nan_bits binary64 n ≡ b → float64_bits (float64_of n) ≡ n
    go true e = rw e
    go false e = rw e (to_bits-of_bits binary64 n h (not_nan binary64 n e))
