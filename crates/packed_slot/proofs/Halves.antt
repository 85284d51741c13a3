-- A GUID's halves in text order are its two numbers.
-- Assumes nothing.
use mathlib.Core.Path.{◌≡◌, sym, ap, ◌∙◌}
use mathlib.Core.List.{[], ◌∷◌}
use Prim.Native.Nat.{ℕ, ◌^◌, ◌<◌}
use lib.ListN.{take, drop}
use Rattle.format.specs.Number.{high_nat, high_bytes}
use Rattle.format.proofs.Number.{high_back}
use Rattle.wire.specs.declared.Guid.{Guid}
use Rattle.wire.specs.Told.{guid_bytes}

pub halves : (g : Guid) → (g.high < 256 ^ 8) × (g.low < 256 ^ 8)
    → 8 ∷ g.high ∷ g.low ∷ [] ≡ 8 ∷ high_nat (take 8 (guid_bytes g)) ∷ high_nat (drop 8 (guid_bytes g)) ∷ []
halves g h =
    ap (λ (n : ℕ). 8 ∷ n ∷ g.low ∷ []) (sym (high_back 8 g.high h.0))
    ∙ ap (λ (n : ℕ). 8 ∷ high_nat (high_bytes 8 g.high) ∷ n ∷ []) (sym (high_back 8 g.low h.1))
