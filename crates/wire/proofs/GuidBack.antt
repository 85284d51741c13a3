-- Reading a GUID and writing it are tied: the two numbers that sixteen bytes in wire order are read as have, as bytes, the text order of those sixteen.
-- It holds since eight bytes are one number and back, and since the order moves the first eight among themselves.
-- Assumes nothing.
use mathlib.Core.Path.{◌≡◌, sym, ap, ◌∙◌}
use mathlib.Core.List.{List, [], ◌∷◌, ◌++◌}
use Prim.Native.Nat.{ℕ, zero, suc, ◌<◌}
use native.Mathlib.Omega.{arith}
use lib.Dec.{lit<}
use lib.ListN.{length}
use Rattle.format.specs.Number.{high_nat, high_bytes}
use Rattle.format.specs.Guid.{guid_order}
use Rattle.format.proofs.Number.{Bytes, high_forth}
use Rattle.wire.specs.Told.{guid_bytes, guid_text}

-- eight bytes
module _ (a b c d e f g h : ℕ) (i : a < 256) (j : b < 256) (k : c < 256) (l : d < 256) (m : e < 256) (n : f < 256) (o : g < 256) (p : h < 256) where
  all : Bytes (a ∷ b ∷ c ∷ d ∷ e ∷ f ∷ g ∷ h ∷ [])
  all zero = i
  all (suc zero) = j
  all (suc (suc zero)) = k
  all (suc (suc (suc zero))) = l
  all (suc (suc (suc (suc zero)))) = m
  all (suc (suc (suc (suc (suc zero))))) = n
  all (suc (suc (suc (suc (suc (suc zero)))))) = o
  all (suc (suc (suc (suc (suc (suc (suc zero))))))) = p
  all (suc (suc (suc (suc (suc (suc (suc (suc x)))))))) = lit< tt

  eight : high_bytes 8 (high_nat (a ∷ b ∷ c ∷ d ∷ e ∷ f ∷ g ∷ h ∷ [])) ≡ a ∷ b ∷ c ∷ d ∷ e ∷ f ∷ g ∷ h ∷ []
  eight = high_forth (a ∷ b ∷ c ∷ d ∷ e ∷ f ∷ g ∷ h ∷ []) all

last : (s : List ℕ) → length s ≡ 8 → Bytes s → high_bytes 8 (high_nat s) ≡ s
last s z b = ap (λ (w : ℕ). high_bytes w (high_nat s)) (sym z) ∙ high_forth s b

pub guid_read_back : (s : List ℕ) → length s ≡ 16 → Bytes s → guid_bytes (guid_text s) ≡ guid_order s
unfolding guid_text guid_order
guid_read_back [] z u = absurd (omega arith)
guid_read_back (a ∷ []) z u = absurd (omega arith)
guid_read_back (a ∷ b ∷ []) z u = absurd (omega arith)
guid_read_back (a ∷ b ∷ c ∷ []) z u = absurd (omega arith)
guid_read_back (a ∷ b ∷ c ∷ d ∷ []) z u = absurd (omega arith)
guid_read_back (a ∷ b ∷ c ∷ d ∷ e ∷ []) z u = absurd (omega arith)
guid_read_back (a ∷ b ∷ c ∷ d ∷ e ∷ f ∷ []) z u = absurd (omega arith)
guid_read_back (a ∷ b ∷ c ∷ d ∷ e ∷ f ∷ g ∷ []) z u = absurd (omega arith)
guid_read_back (a ∷ b ∷ c ∷ d ∷ e ∷ f ∷ g ∷ h ∷ rest) z u =
    let v : Bytes rest = λ x. u (suc (suc (suc (suc (suc (suc (suc (suc x)))))))) in
    ap (λ (x : List ℕ). x ++ high_bytes 8 (high_nat rest)) (eight d c b a f e h g (u 3) (u 2) (u 1) (u 0) (u 5) (u 4) (u 7) (u 6))
    ∙ ap (λ (x : List ℕ). (d ∷ c ∷ b ∷ a ∷ f ∷ e ∷ h ∷ g ∷ []) ++ x) (last rest (omega arith) v)
