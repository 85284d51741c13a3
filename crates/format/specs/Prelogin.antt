-- The prelogin message, writing: document 01, "Header and prelogin"; MS-TDS, "PRELOGIN".
use Rattle.std.specs.Prelude.{ℕ, ◌+◌, ◌*◌, List, [], ◌∷◌, ◌++◌, Bool, length}
use Rattle.lists.specs.Pick.{pick}
use Rattle.format.specs.Answer.{Answer, gives}
use Rattle.format.specs.Number.{high_bytes}

pub record Prelogin : Type 0 where
  pub version : ℕ
  pub sub_build : ℕ
  pub encryption : ℕ
  pub thread_id : ℕ
  pub mars : Bool
  pub fed_auth_required : Bool

-- An option: its token and its data.
pub record Option : Type 0 where
  pub token : ℕ
  pub bytes : List ℕ

-- VERSION (token 0, 6 bytes: version 4, sub-build 2), ENCRYPTION (1), THREADID (3), MARS (4), "and FEDAUTHREQUIRED (6; 1 byte, value 1) only where
-- required". All numbers high byte first.
abbrev pub options : Prelogin → List Option
options p =
    record { token = 0; bytes = high_bytes 4 p.version ++ high_bytes 2 p.sub_build }
    ∷ record { token = 1; bytes = p.encryption ∷ [] }
    ∷ record { token = 3; bytes = high_bytes 4 p.thread_id }
    ∷ record { token = 4; bytes = pick p.mars 1 0 ∷ [] }
    ∷ pick p.fed_auth_required (record { token = 6; bytes = 1 ∷ [] } ∷ []) []

-- "Each table entry: token, offset, length, both numbers two bytes, high byte first", the data one after another from `offset` on.
abbrev pub entries : ℕ → List Option → List ℕ
entries offset [] = []
entries offset (o ∷ os) = o.token ∷ (high_bytes 2 offset ++ (high_bytes 2 (length o.bytes) ++ entries (offset + length o.bytes) os))

abbrev pub datas : List Option → List ℕ
datas [] = []
datas (o ∷ os) = o.bytes ++ datas os

-- "Then 0xFF, then the data." "Offsets count from the start of the table": five bytes for each entry, and one for 0xFF.
abbrev pub message : List Option → List ℕ
message os = entries (5 * length os + 1) os ++ (0xFF ∷ datas os)

unfoldable pub write_prelogin : Prelogin → Answer (List ℕ)
write_prelogin p = gives (message (options p))
