-- Two's complement, for every width: the language's signed numbers are those of `format`.
-- Assumes nothing.
use mathlib.Core.Path.{◌≡◌, refl}
use mathlib.Core.Bool.{Bool, true, false}
use Prim.Native.Nat.{ℕ, suc, ◌-◌, ◌^◌}
use lib.Dec.{ltb}
use lib.IntN.{ℤ, pos, negsuc}
use mir.Syntax.{Width, w8, w16, w32, w64, w128}
use mir.Val.{bits, hbits, to_z, of_z, sel}
use Rattle.lists.specs.Pick.{pick}
use Rattle.format.specs.Number.{signed, unsigned}

abbrev byte_count : Width → ℕ
byte_count w8 = 1
byte_count w16 = 2
byte_count w32 = 4
byte_count w64 = 8
byte_count w128 = 16

pick_sel : (b : Bool) (x y : ℤ) → sel b x y ≡ pick b x y
pick_sel true x y = refl
pick_sel false x y = refl

pub signed_is : (w : Width) (n : ℕ) → to_z w n ≡ signed (byte_count w) n
unfolding signed
signed_is w8 n = pick_sel (ltb n (2 ^ hbits w8)) (pos n) (negsuc (2 ^ bits w8 - suc n))
signed_is w16 n = pick_sel (ltb n (2 ^ hbits w16)) (pos n) (negsuc (2 ^ bits w16 - suc n))
signed_is w32 n = pick_sel (ltb n (2 ^ hbits w32)) (pos n) (negsuc (2 ^ bits w32 - suc n))
signed_is w64 n = pick_sel (ltb n (2 ^ hbits w64)) (pos n) (negsuc (2 ^ bits w64 - suc n))
signed_is w128 n = pick_sel (ltb n (2 ^ hbits w128)) (pos n) (negsuc (2 ^ bits w128 - suc n))

pub unsigned_is : (w : Width) (z : ℤ) → of_z w z ≡ unsigned (byte_count w) z
unfolding unsigned
unsigned_is w8 (pos n) = refl
unsigned_is w16 (pos n) = refl
unsigned_is w32 (pos n) = refl
unsigned_is w64 (pos n) = refl
unsigned_is w128 (pos n) = refl
unsigned_is w8 (negsuc n) = refl
unsigned_is w16 (negsuc n) = refl
unsigned_is w32 (negsuc n) = refl
unsigned_is w64 (negsuc n) = refl
unsigned_is w128 (negsuc n) = refl
