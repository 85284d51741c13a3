-- Where the bytes of a value of one width stand in the input.
-- Assumes nothing.
use mathlib.Core.Path.{◌≡◌, ap, ◌∙◌}
use mathlib.Core.List.{List}
use Prim.Native.Nat.{ℕ, ◌+◌, ◌<◌, ◌≤◌}
use native.Mathlib.Nat.{add-zero}
use native.Mathlib.Omega.{arith}
use lib.ListN.{length, get_or, drop, length-drop}
use lib.Seq.{get_or-drop}
use Rattle.format.specs.Scalar.{Kind, width}
use Rattle.value_kind.proofs.ScalarLaws.{width_some}

module _ (s : List ℕ) (at : ℕ) where
  pub first_byte : get_or (drop at s) 0 0 ≡ get_or s at 0
  first_byte = get_or-drop at s 0 0 ∙ ap (λ (i : ℕ). get_or s i 0) (add-zero at)

  pub begins-inside : 0 < length (drop at s) → at < length s
  begins-inside l = omega (arith, l, length-drop at s)

  pub bytes_inside : (k : Kind) → width k ≤ length (drop at s) → at + width k ≤ length s
  bytes_inside k l = omega (arith, l, length-drop at s, width_some k)

  pub behind-inside : (k : Kind) → 1 + width k ≤ length (drop at s) → at + 1 + width k ≤ length s
  behind-inside k l = omega (arith, l, length-drop at s)
