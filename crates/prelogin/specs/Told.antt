-- What this crate's declared types tell, in the words of `format`, and the message's parts as the code stores them.
use Rattle.std.specs.Prelude.{ℕ, ◌+◌, List, [], ◌∷◌, ◌++◌, Result, Ok, Err}
use Rattle.lists.specs.Pick.{pick}
use Rattle.format.specs.Number.{high_bytes}
use Rattle.format.specs.Prelogin as P
use Rattle.format.specs.Answer.{Answer, gives, refuses}
use Rattle.wire.specs.Told.{refusal_told}
use Rattle.wire.specs.declared.Refusal.{Refusal}
use Rattle.prelogin.specs.declared.Encryption.{Encryption}
use Rattle.prelogin.specs.declared.Encryption.TheVariants as E
use Rattle.prelogin.specs.declared.Prelogin.{Prelogin}

-- MS-TDS, PRELOGIN: ENCRYPT_OFF, ENCRYPT_ON, ENCRYPT_NOT_SUP, ENCRYPT_REQ
abbrev pub encryption_number : Encryption → ℕ
encryption_number E.Off = 0
encryption_number E.On = 1
encryption_number E.NotSupported = 2
encryption_number E.Required = 3

-- ENCRYPTION of a byte, or refusal 2
abbrev pub encryption_told : Result Encryption Refusal → Answer ℕ
encryption_told (Ok e) = gives (encryption_number e)
encryption_told (Err e) = refuses (refusal_told e)

abbrev pub prelogin_told : Prelogin → P.Prelogin
prelogin_told p =
    record {
      version = p.version;
      sub_build = p.sub_build;
      encryption = encryption_number p.encryption;
      thread_id = p.thread_id;
      mars = p.mars;
      fed_auth_required = p.fed_auth_required;
    }

-- an entry of the table
unfoldable pub entry_bytes : ℕ → ℕ → ℕ → List ℕ
entry_bytes token offset count = token ∷ (high_bytes 2 offset ++ high_bytes 2 count)

-- the entries of VERSION, ENCRYPTION, THREADID and MARS, whose data stand from a place on
unfoldable pub table_bytes : ℕ → List ℕ
table_bytes start = ((entry_bytes 0 start 6 ++ entry_bytes 1 (start + 6) 1) ++ entry_bytes 3 (start + 7) 4) ++ entry_bytes 4 (start + 11) 1

-- the data of these four
unfoldable pub data_bytes : Prelogin → List ℕ
data_bytes p =
    (((high_bytes 4 p.version ++ high_bytes 2 p.sub_build) ++ (encryption_number p.encryption ∷ [])) ++ high_bytes 4 p.thread_id) ++
    (pick p.mars 1 0 ∷ [])
