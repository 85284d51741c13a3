-- What it is for a decimal to be read back as a float: a number over a power of ten, both exact as floats, whose quotient, rounded once, equals the float.
-- Equal is as IEEE has it: 0 equals -0, and a NaN equals nothing.
use Rattle.std.specs.Prelude.{None, Option, Some}
use Rattle.std.specs.Prelude.{◌≡◌, ℕ, ◌^◌, ◌<◌, ◌≤◌, T, pos, Float}
use Rattle.std.specs.Float.{Format, binary32, binary64}
use Rattle.std.specs.Float.Ieee.{prec, eq, div, of_int}

-- A power of ten that the format holds exactly: ten is twice five, and five to that power has no more binary digits than the format keeps.
abbrev pub TenIn : Format → ℕ → Type 0
TenIn f power = (k : ℕ) × (power ≡ 10 ^ k) × (5 ^ k < 2 ^ prec f)

abbrev pub Reads : Format → Float → Option (ℕ × ℕ) → Type 0
Reads f x (Some (n, power)) = (n ≤ 2 ^ prec f) × TenIn f power × T (eq (div f (of_int f (pos n)) (of_int f (pos power))) x)
Reads f x None = Unit {0}

abbrev pub Reads64 : Float → Option (ℕ × ℕ) → Type 0
Reads64 x r = Reads binary64 x r

abbrev pub Reads32 : Float → Option (ℕ × ℕ) → Type 0
Reads32 x r = Reads binary32 x r
