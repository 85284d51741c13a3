-- Three numbers low byte first, then eight bytes as they are: what the code reads is the order of document 01.
-- Assumes nothing.
use mathlib.Core.Path.{◌≡◌, ap}
use mathlib.Core.List.{List, [], ◌∷◌}
use Prim.Native.Nat.{ℕ, ◌+◌, ◌*◌, ◌≤◌}
use native.Mathlib.Omega.{arith}
use lib.ListN.{length, take, drop}
use Rattle.format.specs.Number.{low_nat, high_nat}
use Rattle.format.specs.Guid.{guid_order}
use Rattle.wire.specs.declared.Guid.{Guid}
use Rattle.wire.specs.Told.{guid_text}

abbrev guid_from : ℕ → ℕ → Guid
guid_from high low = record { high = high; low = low }

pub guid_read : (r : List ℕ) → 8 ≤ length r →
    guid_from ((low_nat (take 4 r) * 65536 + low_nat (take 2 (drop 4 r))) * 65536 + low_nat (take 2 (drop 6 r))) (high_nat (take 8 (drop 8 r))) ≡ guid_text
    (take 16 r)
unfolding guid_text guid_order
guid_read [] l = absurd (omega arith)
guid_read (a ∷ []) l = absurd (omega arith)
guid_read (a ∷ b ∷ []) l = absurd (omega arith)
guid_read (a ∷ b ∷ c ∷ []) l = absurd (omega arith)
guid_read (a ∷ b ∷ c ∷ d ∷ []) l = absurd (omega arith)
guid_read (a ∷ b ∷ c ∷ d ∷ e ∷ []) l = absurd (omega arith)
guid_read (a ∷ b ∷ c ∷ d ∷ e ∷ f ∷ []) l = absurd (omega arith)
guid_read (a ∷ b ∷ c ∷ d ∷ e ∷ f ∷ g ∷ []) l = absurd (omega arith)
guid_read (a ∷ b ∷ c ∷ d ∷ e ∷ f ∷ g ∷ h ∷ rest) l = ap (λ (n : ℕ). guid_from n (high_nat (take 8 rest))) (omega arith)
