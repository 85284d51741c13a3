-- What this crate's declared types tell: the bits of a float.
use Rattle.std.specs.Prelude.{ℕ}
use Rattle.std.specs.Float.{binary32, binary64}
use Rattle.std.specs.Float.Ieee.{nan_bits, of_bits, to_bits}
use Rattle.lists.specs.Pick.{pick}
use Rattle.bits.specs.declared.float.Float32.{Float32}
use Rattle.bits.specs.declared.float.Float32.TheVariants as F32
use Rattle.bits.specs.declared.float.Float64.{Float64}
use Rattle.bits.specs.declared.float.Float64.TheVariants as F64

-- A pattern that is no NaN's is its value, and a NaN's pattern is itself; `to_bits` gives the quiet NaN at a NaN

abbrev pub float32_of : ℕ → Float32
float32_of n = pick (nan_bits binary32 n) (F32.Nan n) (F32.Value (of_bits binary32 n))

abbrev pub float32_bits : Float32 → ℕ
float32_bits (F32.Value x) = to_bits binary32 x
float32_bits (F32.Nan n) = n

abbrev pub float64_of : ℕ → Float64
float64_of n = pick (nan_bits binary64 n) (F64.Nan n) (F64.Value (of_bits binary64 n))

abbrev pub float64_bits : Float64 → ℕ
float64_bits (F64.Value x) = to_bits binary64 x
float64_bits (F64.Nan n) = n
