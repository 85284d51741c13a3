-- What a value that was made of three numbers tells: the value that the numbers are.
-- Assumes nothing.
use mathlib.Core.Path.{◌≡◌, refl, ap, ◌∙◌}
use mathlib.Core.Bool.{Bool, true, false}
use mathlib.Core.List.{List}
use Prim.Native.Nat.{ℕ, ◌%◌, ◌^◌, ◌<◌}
use native.Mathlib.Nat.{mod-lt}
use native.Mathlib.Omega.{arith}
use lib.ListN.{get_or}
use Rattle.lists.specs.Pick.{pick}
use Rattle.format.specs.Row.{write_row}
use Rattle.format.specs.Scalar as S
use Rattle.bits.specs.declared.float.Float32.{Float32}
use Rattle.bits.specs.declared.float.Float32.TheVariants as F32
use Rattle.bits.specs.declared.float.Float64.{Float64}
use Rattle.bits.specs.declared.float.Float64.TheVariants as F64
use Rattle.bits.specs.Told.{float32_of, float32_bits, float64_of, float64_bits}
use Rattle.bits.proofs.Floats.{float32_back, float64_back}
use Rattle.value_kind.specs.declared.Value.{Value}
use Rattle.value_kind.specs.Told.{scalar_told, value_told, made32, made64}
use Rattle.columns.specs.Told.{columns_told, values_told}
use Rattle.packed.specs.Packed.{table_columns}
use Rattle.packed.specs.Made.{table_made}
use Rattle.packed.proofs.Each.{map_each}
use Rattle.packed.proofs.Told.{table_told}
use Rattle.packed_value.specs.Numbers.{value_of, given, givens}
use Rattle.packed_value.specs.Made.{value_made, given_made, givens_made}

-- a float tells its bits
told32 : (x : Float32) → scalar_told (made32 x) ≡ S.Scalar.f32 (float32_bits x)
told32 (F32.Value v) = refl
told32 (F32.Nan n) = refl

told64 : (x : Float64) → scalar_told (made64 x) ≡ S.Scalar.f64 (float64_bits x)
told64 (F64.Value v) = refl
told64 (F64.Nan n) = refl

low : (n m : ℕ) → 0 < m → n % m < m
low n m h = mod-lt n h

module _ (buffer : List ℕ) where
  chosen : (t : Bool) (x y : Value) → value_told buffer (pick t x y) ≡ pick t (value_told buffer x) (value_told buffer y)
  chosen true x y = refl
  chosen false x y = refl

  pub value_told_lem : (k first second : ℕ) → value_told buffer (value_made k first second) ≡ value_of buffer k first second
  unfolding value_made value_of
  value_told_lem k first second =
      let m = first % 256 ^ 4 in
      let n = first % 256 ^ 8 in
      let x = told32 (float32_of m) ∙ ap S.Scalar.f32 (float32_back m (low first (256 ^ 4) (omega arith))) in
      let y = told64 (float64_of n) ∙ ap S.Scalar.f64 (float64_back n (low first (256 ^ 8) (omega arith))) in
      simp (chosen, x, y)

  -- the values of a row
  pub givens_told : (vs : List ℕ) → values_told buffer (givens_made vs) ≡ givens buffer vs
  givens_told vs =
      map_each 3 given_made (value_told buffer) (given buffer) (λ (v : List ℕ). value_told_lem (get_or v 0 0) (get_or v 1 0) (get_or v 2 0)) vs

  -- a row of them, under a table's columns
  pub row_told_lem : (t vs : List ℕ)
      → write_row (columns_told buffer (table_made t)) (values_told buffer (givens_made vs)) ≡ write_row (table_columns t) (givens buffer vs)
  row_told_lem t vs = rw (table_told buffer t, givens_told vs)
