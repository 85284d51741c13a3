-- No two outcomes satisfy the contract of a public call of this crate: `..Told` has an inverse.
-- Assumes nothing.
use Rattle.std.specs.Prelude.{Err, Ok, Result}
use mathlib.Core.Path.{◌≡◌, refl, ap}
use mathlib.Core.List.{List}
use Prim.Native.Nat.{ℕ}
use lib.Dec.{eqb}
use Rattle.lists.specs.Pick.{pick}
use Rattle.format.specs.Answer.{Read, took, stops, read_at}
use Rattle.format.specs.Header as H
use Rattle.format.specs.Header.{read_header}
use Rattle.format.proofs.Decided.{Undoes, decided}
use Rattle.wire.proofs.Decided.{refusal_back, refusal_undoes}
use Rattle.header.specs.declared.PacketType.{PacketType}
use Rattle.header.specs.declared.PacketType.TheVariants as P
use Rattle.header.specs.declared.PacketStatus.{PacketStatus}
use Rattle.header.specs.declared.PacketStatus.TheVariants as S
use Rattle.header.specs.declared.Header.{Header}
use Rattle.header.specs.Told.{type_byte, status_byte, header_fields, header_told}
use Rattle.wire.specs.declared.Cursor.{Cursor}
use Rattle.wire.specs.declared.Refusal.{Refusal}

abbrev type_back : ℕ → PacketType
type_back n =
    pick (eqb n 1) P.SqlBatch
    (pick (eqb n 2) P.PreTds7Login
    (pick (eqb n 3) P.Rpc
    (pick (eqb n 4) P.TabularResult
    (pick (eqb n 6) P.AttentionSignal
    (pick (eqb n 7) P.BulkLoad
    (pick (eqb n 8) P.FederatedAuthenticationToken
    (pick (eqb n 14) P.TransactionManagerRequest
    (pick (eqb n 16) P.Tds7Login
    (pick (eqb n 17) P.Sspi
    P.Prelogin)))))))))

type_undoes : Undoes type_byte type_back
type_undoes P.SqlBatch = refl
type_undoes P.PreTds7Login = refl
type_undoes P.Rpc = refl
type_undoes P.TabularResult = refl
type_undoes P.AttentionSignal = refl
type_undoes P.BulkLoad = refl
type_undoes P.FederatedAuthenticationToken = refl
type_undoes P.TransactionManagerRequest = refl
type_undoes P.Tds7Login = refl
type_undoes P.Sspi = refl
type_undoes P.Prelogin = refl

abbrev status_back : ℕ → PacketStatus
status_back n =
    pick (eqb n 0) S.Normal (pick (eqb n 1) S.EndOfMessage (pick (eqb n 3) S.IgnoreEvent (pick (eqb n 8) S.ResetConnection S.ResetConnectionSkipTran)))

status_undoes : Undoes status_byte status_back
status_undoes S.Normal = refl
status_undoes S.EndOfMessage = refl
status_undoes S.IgnoreEvent = refl
status_undoes S.ResetConnection = refl
status_undoes S.ResetConnectionSkipTran = refl

abbrev fields_back : H.Header → Header
fields_back f = record { ty = type_back f.type; status = status_back f.status; length = f.length; spid = f.spid; id = f.id; window = f.window }

fields_undoes : Undoes header_fields fields_back
fields_undoes h = rw (type_undoes h.ty, status_undoes h.status)

abbrev header_back : Read H.Header → Result (Header × Cursor) Refusal
header_back (took f n) = Ok ((fields_back f), (record { at = n }))
header_back (stops e) = Err (refusal_back e)

header_undoes : Undoes header_told header_back
header_undoes (Ok (h, c)) = ap (λ (x : Header). Ok (x, c)) (fields_undoes h)
header_undoes (Err e) = ap Err (refusal_undoes e)

-- `header::read_header`
pub read_header_decided : (s : List ℕ) (at : ℕ) (x y : Result (Header × Cursor) Refusal) → header_told x ≡ read_at read_header s at →
    header_told y ≡ read_at read_header s at → x ≡ y
read_header_decided s at x y p q = decided header_told header_back header_undoes x y (read_at read_header s at) p q
