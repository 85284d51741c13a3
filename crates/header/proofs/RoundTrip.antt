-- A header that was written reads back as itself, and the eight bytes that were read are the ones that are written.
-- `header_back_lem`: for every header with numbers of 16 bits, `read_header (header_bytes (header_fields h) ++ rest) ≡ took (header_fields h) 8`.
-- `header_forth`: for every eight bytes or more that read as a header f, `header_bytes f ≡ take 8 s`.
-- Assumes nothing.
use mathlib.Core.Path.{◌≡◌, refl, ap, ◌∙◌}
use mathlib.Core.List.{List, [], ◌∷◌, ◌++◌}
use mathlib.Core.Bool.{true}
use Prim.Native.Nat.{ℕ, zero, suc, ◌<◌, ◌≤◌, ◌^◌}
use native.Mathlib.Omega.{arith}
use lib.ListN.{length, take}
use Rattle.format.specs.Answer.{took}
use Rattle.format.specs.Number.{high_nat, high_bytes}
use Rattle.format.specs.Header.{listed, packet_types, packet_statuses, header_of, header_bytes, read_header}
use Rattle.format.proofs.Number.{Bytes, high_back, high_forth}
use Rattle.header.specs.declared.PacketType.{PacketType}
use Rattle.header.specs.declared.PacketType.TheVariants as P
use Rattle.header.specs.declared.PacketStatus.{PacketStatus}
use Rattle.header.specs.declared.PacketStatus.TheVariants as S
use Rattle.header.specs.declared.Header.{Header}
use Rattle.header.specs.Told.{type_byte, status_byte, header_fields}
use Rattle.header.proofs.Laws.{header_there}

-- every type and status is listed
pub type-listed : (t : PacketType) → listed packet_types (type_byte t) ≡ true
type-listed P.SqlBatch = refl
type-listed P.PreTds7Login = refl
type-listed P.Rpc = refl
type-listed P.TabularResult = refl
type-listed P.AttentionSignal = refl
type-listed P.BulkLoad = refl
type-listed P.FederatedAuthenticationToken = refl
type-listed P.TransactionManagerRequest = refl
type-listed P.Tds7Login = refl
type-listed P.Sspi = refl
type-listed P.Prelogin = refl

pub status-listed : (t : PacketStatus) → listed packet_statuses (status_byte t) ≡ true
status-listed S.Normal = refl
status-listed S.EndOfMessage = refl
status-listed S.IgnoreEvent = refl
status-listed S.ResetConnection = refl
status-listed S.ResetConnectionSkipTran = refl

pub header_back_lem : (h : Header) (rest : List ℕ) → h.length < 2 ^ 16 → h.spid < 2 ^ 16 →
    read_header (header_bytes (header_fields h) ++ rest) ≡ took (header_fields h) 8
header_back_lem h rest l p =
    let s = header_bytes (header_fields h) ++ rest in
    header_there s (omega arith) (type-listed h.ty) (status-listed h.status)
    ∙ rw (high_back 2 h.length l, high_back 2 h.spid p)

-- two bytes that are read as a number are the number's two bytes
two : (a b : ℕ) → a < 256 → b < 256 → high_bytes 2 (high_nat (a ∷ b ∷ [])) ≡ a ∷ b ∷ []
two a b f g = high_forth (a ∷ b ∷ []) bytes
  where
    bytes : Bytes (a ∷ b ∷ [])
    bytes zero = f
    bytes (suc zero) = g
    bytes (suc (suc i)) = omega arith

pub header_forth : (s : List ℕ) → Bytes s → 8 ≤ length s → header_bytes (header_of s) ≡ take 8 s
header_forth [] b l = absurd (omega arith)
header_forth (t ∷ []) b l = absurd (omega arith)
header_forth (t ∷ u ∷ []) b l = absurd (omega arith)
header_forth (t ∷ u ∷ v ∷ []) b l = absurd (omega arith)
header_forth (t ∷ u ∷ v ∷ w ∷ []) b l = absurd (omega arith)
header_forth (t ∷ u ∷ v ∷ w ∷ x ∷ []) b l = absurd (omega arith)
header_forth (t ∷ u ∷ v ∷ w ∷ x ∷ y ∷ []) b l = absurd (omega arith)
header_forth (t ∷ u ∷ v ∷ w ∷ x ∷ y ∷ z ∷ []) b l = absurd (omega arith)
header_forth (t ∷ u ∷ v ∷ w ∷ x ∷ y ∷ z ∷ a ∷ rest) b l =
    ap (λ (n : List ℕ). t ∷ u ∷ (n ++ (high_bytes 2 (high_nat (x ∷ y ∷ [])) ++ (z ∷ a ∷ [])))) (two v w (b 2) (b 3))
    ∙ ap (λ (n : List ℕ). t ∷ u ∷ v ∷ w ∷ (n ++ (z ∷ a ∷ []))) (two x y (b 4) (b 5))
