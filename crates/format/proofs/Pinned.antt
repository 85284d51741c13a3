-- Numbers and choices of document 01 that no round trip would miss, each as a law in the document's own words: who moves one of them in a definition meets
-- its sentence here. The numbers stand as they stand in the document, not by the definitions' names.
-- Each holds by computing, or by one test whose outcome is given. Assumes nothing.
use Rattle.std.specs.Prelude.{Option, Some}
use mathlib.Core.Path.{◌≡◌, refl}
use mathlib.Core.List.{List, [], ◌∷◌, ◌++◌, append-nil}
use mathlib.Core.Bool.{Bool, true, false}
use Prim.Native.Nat.{ℕ, zero, suc, ◌≤◌, ◌<◌}
use native.Mathlib.Omega.{arith}
use borrow.Author.Tests.{lt-ltb, le-ltb, le-leb, lt-leb, ltb-false}
use lib.Dec.{ltb}
use lib.ListN.{length, take, drop, length-append, length-drop}
use lib.Seq.{take-append_seam, drop-append_seam}
use Rattle.lists.specs.Pick.{pick}
use Rattle.format.specs.Answer.{Refusal, missing, unknown, kind, room, long, rule, not_carried, sequence, not_text, number, gives}
use Rattle.format.specs.Answer.{refuses, Read, took, stops, inside, fitted_read, room_after_read, then_read}
use Rattle.format.specs.Number.{low_bytes}
use Rattle.format.specs.Text.{text_in}
use Rattle.format.specs.Header.{packet_types, packet_statuses, listed}
use Rattle.format.specs.Descriptor.{TypeId, xml, types, Schema, Column, collation_fits, schema_fits, name_fits}
use Rattle.format.specs.Plp.{opened, plp_bytes}
use Rattle.format.specs.Value.{Value, Given, copied_out, is_plp, write_untyped, untyped_bound}
use Rattle.format.specs.Row.{read_values, read_row, copied_out_row, write_row, read_columns, read_captured, read_counted}

-- ---- the refusals

-- "The refusals": the table's nine rows have the numbers 1 to 9, in their order.
pub nine-numbers :
    (number missing ∷ number unknown ∷ number kind ∷ number room ∷ number long ∷ number rule ∷ number not_carried ∷ number sequence ∷ number not_text ∷ [])
    ≡ (1 ∷ 2 ∷ 3 ∷ 4 ∷ 5 ∷ 6 ∷ 7 ∷ 8 ∷ 9 ∷ [])
nine-numbers = refl

module _ {A : Type 0} (copied : A → List ℕ) (out : List ℕ) where
  -- "A refusal carries its number only, and no lent byte changes": of a reader that copies content out.
  pub refused_keeps : (e : Refusal) → room_after_read copied (stops e) out ≡ out
  unfolding room_after_read
  refused_keeps e = refl

  -- "A success writes at the front of the room and keeps every byte behind it."
  pub copied-front : (v : A) (n : ℕ) → take (length (copied v)) (room_after_read copied (took v n) out) ≡ copied v
  unfolding room_after_read
  copied-front v n = take-append_seam (copied v) (drop (length (copied v)) out)

  pub copied_behind : (v : A) (n : ℕ) → drop (length (copied v)) (room_after_read copied (took v n) out) ≡ drop (length (copied v)) out
  unfolding room_after_read
  copied_behind v n = drop-append_seam (copied v) (drop (length (copied v)) out)

  -- The room is as long as it was lent, whatever was read.
  pub room_as_long : (r : Read A) → length (room_after_read copied (fitted_read copied r (length out)) out) ≡ length out
  unfolding fitted_read room_after_read
  room_as_long (stops e) = refl
  room_as_long (took v n) = go (ltb (length out) (length (copied v))) (ltb-false (length out) (length (copied v)))
    where
      go : (t : Bool) → (t ≡ false → length (copied v) ≤ length out) → length (room_after_read copied (pick t (stops room) (took v n)) out) ≡ length out
      go true h = refl
      go false h = let k = h refl in simp (length-append, length-drop) (omega arith)

-- ---- the packet header

-- Those of the numbers below n that pass a test, in their order.
abbrev pub below : (ℕ → Bool) → ℕ → List ℕ → List ℕ
below test zero rest = rest
below test (suc n) rest = below test n (pick (test n) (n ∷ rest) rest)

-- "Types 1, 2, 3, 4, 6, 7, 8, 14, 16, 17, 18": of all bytes these and no other.
pub these_types : below (listed packet_types) 256 [] ≡ (1 ∷ 2 ∷ 3 ∷ 4 ∷ 6 ∷ 7 ∷ 8 ∷ 14 ∷ 16 ∷ 17 ∷ 18 ∷ [])
these_types = refl

-- "Status 0, 1, 3, 8, 16."
pub these_statuses : below (listed packet_statuses) 256 [] ≡ (0 ∷ 1 ∷ 3 ∷ 8 ∷ 16 ∷ [])
these_statuses = refl

-- ---- rule 6

-- "A collation (4 bytes low first, then a sort byte)"; "numbers .. must fit their fields": the greatest that fit, and one more of each.
pub collation_greatest : collation_fits true (Some (record { info = 4294967295; sort = 255 })) ≡ true
collation_greatest = refl

pub collation-info-above : collation_fits true (Some (record { info = 4294967296; sort = 255 })) ≡ false
collation-info-above = refl

pub collation-sort-above : collation_fits true (Some (record { info = 4294967295; sort = 256 })) ≡ false
collation-sort-above = refl

-- "Numbers it has no field for": of all types Xml alone has a schema.
abbrev pub with_schema : Schema → List TypeId → List TypeId → List TypeId
with_schema n [] found = found
with_schema n (t ∷ ts) found = with_schema n ts (pick (schema_fits t (Some n)) (t ∷ found) found)

pub schema_alone : (n : Schema) → with_schema n types [] ≡ (xml ∷ [])
schema_alone n = refl

-- "Three names, counted in UTF-16 units by one, one and two bytes": 255 units and 65,535 units fit, one more does not.
pub name-255 : (s : List ℕ) → length s ≡ 510 → name_fits 1 (inside s) ≡ true
name-255 s e = rw e

pub name-256 : (s : List ℕ) → length s ≡ 512 → name_fits 1 (inside s) ≡ false
name-256 s e = rw e

pub name-65535 : (s : List ℕ) → length s ≡ 131070 → name_fits 2 (inside s) ≡ true
name-65535 s e = rw e

pub name-65536 : (s : List ℕ) → length s ≡ 131072 → name_fits 2 (inside s) ≡ false
name-65536 s e = rw e

-- ---- values without a type

module _ (s : List ℕ) where
  -- "Binary up to 8,000 bytes as BigVarBin 8000, above as 65,535."
  pub binary-8000 : length s ≤ 8000 → write_untyped (Given.binary (inside s)) ≡ gives (0xA5 ∷ 0x40 ∷ 0x1F ∷ (low_bytes 2 (length s) ++ s))
  unfolding write_untyped
  binary-8000 h = rw (le-leb (length s) 8000 h)

  pub binary-above : 8000 < length s → length s ≤ 2147483647 → write_untyped (Given.binary (inside s)) ≡ gives (0xA5 ∷ 0xFF ∷ 0xFF ∷ plp_bytes (Some s))
  unfolding write_untyped untyped_bound
  binary-above h k = rw (lt-leb (length s) 8000 h, le-ltb 2147483647 (length s) k)

  -- "Untyped PLP has its own bound: 2,147,483,647 content bytes."
  pub binary-bound : 2147483647 < length s → write_untyped (Given.binary (inside s)) ≡ refuses long
  unfolding write_untyped untyped_bound
  binary-bound k = rw (lt-leb (length s) 8000 (omega arith), lt-ltb 2147483647 (length s) k)

  module _ (u : List ℕ) (e : text_in s ≡ gives u) where
    -- "String up to 4,000 UTF-8 bytes as NVarchar 8000, above as 65,535, five zero bytes of collation."
    pub string-4000 : length s ≤ 4000 → write_untyped (Given.string (inside s)) ≡ gives (0xE7 ∷ 0x40 ∷ 0x1F ∷ 0 ∷ 0 ∷ 0 ∷ 0 ∷ 0 ∷ (low_bytes 2 (length u) ++ u))
    unfolding write_untyped
    string-4000 h = rw (e, le-leb (length s) 4000 h)

    pub string-above : 4000 < length s → length u ≤ 2147483647 →
        write_untyped (Given.string (inside s)) ≡ gives (0xE7 ∷ 0xFF ∷ 0xFF ∷ 0 ∷ 0 ∷ 0 ∷ 0 ∷ 0 ∷ plp_bytes (Some u))
    unfolding write_untyped untyped_bound
    string-above h k = rw (e, lt-leb (length s) 4000 h, le-ltb 2147483647 (length u) k)

-- ---- walks and rows

-- "It starts behind the eight bytes": nothing passed, not at its end.
pub walk-opened : (total : Option ℕ) (text : Bool) → opened total text ≡ record { at = 8; sum = 0; total = total; text = text; ended = false }
walk-opened total text = refl

-- "0 to 1,024 (more: 6)": a row, and a capture's count.
module _ (cs : List Column) where
  pub columns-1024 : (s : List ℕ) → length cs ≤ 1024 → read_row cs s ≡ read_values cs s
  unfolding read_row
  columns-1024 s h = rw (le-ltb 1024 (length cs) h)

  pub columns-above : (s : List ℕ) → 1024 < length cs → read_row cs s ≡ stops rule
  unfolding read_row
  columns-above s h = rw (lt-ltb 1024 (length cs) h)

  pub written-above : (vs : List Given) → 1024 < length cs → write_row cs vs ≡ refuses rule
  unfolding write_row
  written-above vs h = rw (lt-ltb 1024 (length cs) h)

pub count-1024 : (n : ℕ) (s : List ℕ) → n ≤ 1024 → read_counted n s ≡ then_read (read_columns n) read_captured s
count-1024 n s h = rw (le-ltb 1024 n h)

pub count-above : (n : ℕ) (s : List ℕ) → 1024 < n → read_counted n s ≡ stops rule
count-above n s h = rw (lt-ltb 1024 n h)

-- "Each column writes into the unused rest of the same output": two PLP columns take the room of both contents, one behind the other.
pub both_contents : (c d : Column) (a b : List ℕ) → is_plp c ≡ true → is_plp d ≡ true → copied_out_row (c ∷ d ∷ []) (Value.binary a ∷ Value.binary b ∷ [])
    ≡ a ++ b
unfolding copied_out_row copied_out
both_contents c d a b p q = rw (p, q, append-nil)
