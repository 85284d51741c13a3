-- What this crate's declared types tell, in the words of `format`.
use Rattle.std.specs.Prelude.{Err, Ok, Result}
use Rattle.std.specs.Prelude.{ℕ}
use Rattle.format.specs.Answer.{Answer, gives, refuses, Read, took, stops}
use Rattle.format.specs.Header as H
use Rattle.wire.specs.Told.{refusal_told}
use Rattle.header.specs.declared.PacketType.{PacketType}
use Rattle.header.specs.declared.PacketType.TheVariants as P
use Rattle.header.specs.declared.PacketStatus.{PacketStatus}
use Rattle.header.specs.declared.PacketStatus.TheVariants as S
use Rattle.header.specs.declared.Header.{Header}
use Rattle.wire.specs.declared.Refusal.{Refusal}
use Rattle.wire.specs.declared.Cursor.{Cursor}

-- document 01's number for each type and each status
abbrev pub type_byte : PacketType → ℕ
type_byte P.SqlBatch = 1
type_byte P.PreTds7Login = 2
type_byte P.Rpc = 3
type_byte P.TabularResult = 4
type_byte P.AttentionSignal = 6
type_byte P.BulkLoad = 7
type_byte P.FederatedAuthenticationToken = 8
type_byte P.TransactionManagerRequest = 14
type_byte P.Tds7Login = 16
type_byte P.Sspi = 17
type_byte P.Prelogin = 18

abbrev pub status_byte : PacketStatus → ℕ
status_byte S.Normal = 0
status_byte S.EndOfMessage = 1
status_byte S.IgnoreEvent = 3
status_byte S.ResetConnection = 8
status_byte S.ResetConnectionSkipTran = 16

abbrev pub type_told : Result PacketType Refusal → Answer ℕ
type_told (Ok t) = gives (type_byte t)
type_told (Err e) = refuses (refusal_told e)

abbrev pub status_told : Result PacketStatus Refusal → Answer ℕ
status_told (Ok t) = gives (status_byte t)
status_told (Err e) = refuses (refusal_told e)

-- the six fields
abbrev pub header_fields : Header → H.Header
header_fields h = record {
  type = type_byte h.ty;
  status = status_byte h.status;
  length = h.length;
  spid = h.spid;
  id = h.id;
  window = h.window;
}

abbrev pub header_told : Result (Header × Cursor) Refusal → Read H.Header
header_told (Ok (h, c)) = took (header_fields h) c.at
header_told (Err e) = stops (refusal_told e)
