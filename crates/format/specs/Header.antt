-- The packet header: document 01, "Header and prelogin"; MS-TDS, "Packet Header".
use Rattle.std.specs.Prelude.{ℕ, List, [], ◌∷◌, ◌++◌, Bool, true, false, not, ltb, eqb}
use lib.ListN.{length, get_or, take, drop}
use Rattle.lists.specs.Pick.{pick}
use Rattle.format.specs.Answer.{Answer, gives, Read, took, missing, unknown, stop_if}
use Rattle.format.specs.Number.{high_nat, high_bytes}

-- "Types 1, 2, 3, 4, 6, 7, 8, 14, 16, 17, 18."
abbrev pub packet_types : List ℕ
packet_types = 1 ∷ 2 ∷ 3 ∷ 4 ∷ 6 ∷ 7 ∷ 8 ∷ 14 ∷ 16 ∷ 17 ∷ 18 ∷ []

-- "Status 0, 1, 3, 8, 16: the Rust is kept, though MS-TDS has bits."
abbrev pub packet_statuses : List ℕ
packet_statuses = 0 ∷ 1 ∷ 3 ∷ 8 ∷ 16 ∷ []

-- Is n one of these?
abbrev pub listed : List ℕ → ℕ → Bool
listed [] n = false
listed (m ∷ ms) n = pick (eqb n m) true (listed ms n)

pub record Header : Type 0 where
  pub type : ℕ
  pub status : ℕ
  pub length : ℕ
  pub spid : ℕ
  pub id : ℕ
  pub window : ℕ

-- "A header is 8 bytes: type, status, length, SPID (two bytes each, high byte first), id, window."
abbrev pub header_of : List ℕ → Header
header_of s = record {
  type = get_or s 0 0;
  status = get_or s 1 0;
  length = high_nat (take 2 (drop 2 s));
  spid = high_nat (take 2 (drop 4 s));
  id = get_or s 6 0;
  window = get_or s 7 0;
}

-- "Fewer than 8 bytes: 1, before anything else." "The length number isn't judged."
unfoldable pub read_header : List ℕ → Read Header
read_header s =
    stop_if (ltb (lib.ListN.length s) 8) missing
    (stop_if (not (listed packet_types (get_or s 0 0))) unknown
    (stop_if (not (listed packet_statuses (get_or s 1 0))) unknown
    (took (header_of s) 8)))

abbrev pub header_bytes : Header → List ℕ
header_bytes h = h.type ∷ h.status ∷ (high_bytes 2 h.length ++ (high_bytes 2 h.spid ++ (h.id ∷ h.window ∷ [])))

-- Types and statuses are enumerated values, so nothing but the room refuses.
unfoldable pub write_header : Header → Answer (List ℕ)
write_header h = gives (header_bytes h)
