-- An integer of few bytes in 64 bits: its low bytes, and above them nothing or ones.
-- Assumes nothing.
use mathlib.Core.Path.{◌≡◌, ap}
use Prim.Native.Nat.{ℕ, ◌-◌, ◌/◌, ◌^◌, ◌<◌, ◌≤◌}
use native.Mathlib.Omega.{arith}
use borrow.Author.Tests.{lt-ltb, le-ltb}
use Rattle.format.specs.Number.{signed, unsigned}

module _ (w m : ℕ) where
  pub below_half : m < 256 ^ w / 2 → unsigned 8 (signed w m) ≡ m
  unfolding signed unsigned
  below_half l = rw (lt-ltb m (256 ^ w / 2) l)

  pub above_half : 256 ^ w / 2 ≤ m → m < 256 ^ w → unsigned 8 (signed w m) ≡ 256 ^ 8 - (256 ^ w - m)
  unfolding signed unsigned
  above_half l u = rw (le-ltb m (256 ^ w / 2) l) (ap (λ (k : ℕ). 256 ^ 8 - k) (omega (arith, u)))
