-- By cases on the test of a choice, and cases that cannot be.
-- Assumes nothing.
use mathlib.Core.Path.{◌≡◌, refl}
use mathlib.Core.Bool.{Bool, true, false}
use Prim.Native.Nat.{ℕ}
use native.Mathlib.Omega.{arith}
use Rattle.lists.specs.Pick.{pick}

-- what a choice came to, it came to by one of its two arms
pub split : {A P : Type 0} (b : Bool) {x y g : A} → (b ≡ true → x ≡ g → P) → (b ≡ false → y ≡ g → P) → pick b x y ≡ g → P
split true f g h = f refl h
split false f g h = g refl h

-- what two constructors that are said to be equal come to: anything
pub clash : {P : Type 0} → ◌≡◌ {A = ℕ} 0 1 → P
clash h = absurd (omega (arith, h))
