-- A value of the code's type is in its range: an unsigned number of 8 bits, a whole number of 16, 32 or 64 bits, a float's bits, a GUID's sixteen bytes.
-- Why it holds: the logic's relation of a type to its machine values says so of every integer and float, and a GUID's bytes are eight and eight.
-- Assumes nothing.
use mathlib.Core.Path.{refl}
use mathlib.Core.List.{List, [], ◌∷◌}
use Prim.Native.Nat.{ℕ}
use native.Mathlib.Omega.{arith}
use lib.IntN.{ℤ, pos, negsuc}
use lib.Ieee.{binary32, binary64}
use lib.Ieee.Bits.{to_bits-lt}
use mir.Syntax.{w16, w32, w64}
use mir.Val.{Val}
use denote.Laws.{Is}
use denote.Signed.{SInt}
use denote.Enum.Laws as EL
use Rattle.format.proofs.Number.{Signed}
use Rattle.format.proofs.Scalar.{InRange}
use Rattle.format.proofs.Writing.{Ranged, RangedAll}
use Rattle.value_kind.specs.declared.Scalar.{Scalar}
use Rattle.value_kind.specs.declared.Scalar.TheVariants as C
use Rattle.value_kind.specs.declared.Value.{Value}
use Rattle.value_kind.specs.declared.Value.TheVariants as W
use Rattle.value_kind.specs.Told.{scalar_told, value_told}
use Rattle.value_kind.specs.contracts.Scalar as N
use Rattle.value_kind.proofs.Scalar.TheLaws as N'
use Rattle.value_kind.specs.contracts.Value as Y
use Rattle.value_kind.proofs.Value.TheLaws as Y'
use Rattle.columns.specs.Told.{values_told}

signed2 : (z : ℤ) (vs : List Val) → Is (SInt w16) z vs → Signed 2 z
signed2 (pos n) vs h = omega (arith, h.1)
signed2 (negsuc n) vs h = omega (arith, h.1)

signed4 : (z : ℤ) (vs : List Val) → Is (SInt w32) z vs → Signed 4 z
signed4 (pos n) vs h = omega (arith, h.1)
signed4 (negsuc n) vs h = omega (arith, h.1)

signed8 : (z : ℤ) (vs : List Val) → Is (SInt w64) z vs → Signed 8 z
signed8 (pos n) vs h = omega (arith, h.1)
signed8 (negsuc n) vs h = omega (arith, h.1)

scalar_ranged : (s : Scalar) (vs : List Val) → Is N.the_row s vs → InRange (scalar_told s)
scalar_ranged (C.Bit b) vs h = tt
scalar_ranged (C.U8 n) vs h = omega (arith, (EL.owed N.the_type N'.the_laws (C.U8 n) vs h).0.1)
scalar_ranged (C.I16 z) vs h = signed2 z _ (EL.owed N.the_type N'.the_laws (C.I16 z) vs h).0
scalar_ranged (C.I32 z) vs h = signed4 z _ (EL.owed N.the_type N'.the_laws (C.I32 z) vs h).0
scalar_ranged (C.I64 z) vs h = signed8 z _ (EL.owed N.the_type N'.the_laws (C.I64 z) vs h).0
scalar_ranged (C.F32 x) vs h =
    let f = (EL.owed N.the_type N'.the_laws (C.F32 x) vs h).0.1 in
    to_bits-lt binary32 x (rw f tt)
scalar_ranged (C.F32Nan n) vs h = omega (arith, (EL.owed N.the_type N'.the_laws (C.F32Nan n) vs h).0.1)
scalar_ranged (C.F64 x) vs h =
    let f = (EL.owed N.the_type N'.the_laws (C.F64 x) vs h).0.1 in
    to_bits-lt binary64 x (rw f tt)
scalar_ranged (C.F64Nan n) vs h = omega (arith, (EL.owed N.the_type N'.the_laws (C.F64Nan n) vs h).0.1)
scalar_ranged (C.Guid g) vs h = refl

ranged : (buffer : List ℕ) (v : Value) (vs : List Val) → Is Y.the_row v vs → Ranged (value_told buffer v)
ranged buffer W.Null vs h = tt
ranged buffer (W.Scalar s) vs h = scalar_ranged s _ (EL.owed Y.the_type Y'.the_laws (W.Scalar s) vs h).0
ranged buffer (W.Binary p) vs h = tt
ranged buffer (W.String p) vs h = tt

-- each value has machine values of the code's type
abbrev pub Typed : List Value → Type 0
Typed [] = Unit {0}
Typed (v ∷ vs) = Is Y.the_row v (EL.vals Y.the_type Y'.the_laws v) × Typed vs

pub all_ranged : (buffer : List ℕ) (values : List Value) → Typed values → RangedAll (values_told buffer values)
all_ranged buffer [] t = tt
all_ranged buffer (v ∷ vs) t = (ranged buffer v _ t.0, all_ranged buffer vs t.1)
