-- The packet header and prelogin as plain numbers.
use Rattle.std.specs.Prelude.{ℕ, List, [], ◌∷◌, eqb, ltb}
use Rattle.format.specs.Answer.{Answer, gives, Read, unknown, refuse_if, map_read, and_then, read_at}
use Rattle.format.specs.Header as H
use Rattle.format.specs.Header.{packet_types, packet_statuses, read_header}
use Rattle.format.specs.Prelogin as P
use Rattle.wire.specs.Told.{known}

-- type, status, length, SPID, id, window
abbrev pub header_numbers : H.Header → List ℕ
header_numbers h = h.type ∷ h.status ∷ h.length ∷ h.spid ∷ h.id ∷ h.window ∷ []

-- the header at a place of the input, as its six numbers
abbrev pub header_at : List ℕ → ℕ → Read (List ℕ)
header_at s at = map_read header_numbers (read_at read_header s at)

abbrev pub header_made : ℕ → ℕ → ℕ → ℕ → ℕ → ℕ → H.Header
header_made type status length spid id window = record { type = type; status = status; length = length; spid = spid; id = id; window = window }

-- the header of six numbers: "unknown packet type, packet status" is 2, before anything else
abbrev pub header_given : ℕ → ℕ → ℕ → ℕ → ℕ → ℕ → Answer H.Header
header_given type status length spid id window =
    and_then (known packet_types type) (λ t.
    and_then (known packet_statuses status) (λ u.
    gives (header_made t u length spid id window)))

-- the prelogin message of plain numbers: encryption is 0 to 3, mars and fed_auth are 0 or 1; another number is 2, before anything else
abbrev pub prelogin_given : ℕ → ℕ → ℕ → ℕ → ℕ → ℕ → Answer P.Prelogin
prelogin_given version sub_build encryption thread_id mars fedAuth =
    refuse_if (ltb 3 encryption) unknown
    (refuse_if (ltb 1 mars) unknown
    (refuse_if (ltb 1 fedAuth) unknown
    (gives (record {
      version = version;
      sub_build = sub_build;
      encryption = encryption;
      thread_id = thread_id;
      mars = eqb mars 1;
      fed_auth_required = eqb fedAuth 1;
    }))))
