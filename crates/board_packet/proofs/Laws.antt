-- What is read or to be written, once its type and its status are judged: a refusal, or the header.
-- Assumes nothing.
use mathlib.Core.Path.{◌≡◌, refl}
use mathlib.Core.List.{List}
use mathlib.Core.Bool.{Bool, true, false, not}
use Prim.Native.Nat.{ℕ, ◌≤◌}
use lib.ListN.{length, get_or}
use borrow.Author.Tests.{le-ltb}
use Rattle.lists.specs.Pick.{pick}
use Rattle.lists.proofs.Split.{clash}
use Rattle.format.specs.Answer.{Answer, gives, refuses, Read, took, stops, unknown, stop_if, and_then}
use Rattle.format.specs.Header as H
use Rattle.format.specs.Header.{packet_types, packet_statuses, listed, header_of, read_header, header_bytes, write_header}
use Rattle.wire.specs.Told.{known}
use Rattle.board_packet.specs.Plain.{header_made, header_given}

-- ---- a header: its type and its status, judged together

-- reading, once the eight bytes are there
module _ (s : List ℕ) (l : 8 ≤ length s) where
  module _ (x y : Bool) where
    abbrev judged : Read H.Header
    judged = stop_if (not x) unknown (stop_if (not y) unknown (took (header_of s) 8))

  both_known : (x y : Bool) → pick x y false ≡ true → judged x y ≡ took (header_of s) 8
  both_known true true h = refl
  both_known true false h = clash cc
  both_known false y h = clash cc

  one_unknown : (x y : Bool) → pick x y false ≡ false → judged x y ≡ stops unknown
  one_unknown true true h = clash cc
  one_unknown true false h = refl
  one_unknown false y h = refl

  abbrev type_in : Bool
  type_in = listed packet_types (get_or s 0 0)

  abbrev status_in : Bool
  status_in = listed packet_statuses (get_or s 1 0)

  pub reads_known : pick type_in status_in false ≡ true → read_header s ≡ took (header_of s) 8
  unfolding read_header
  reads_known h = rw (le-ltb (length s) 8 l) (both_known type_in status_in h)

  pub reads_unknown : pick type_in status_in false ≡ false → read_header s ≡ stops unknown
  unfolding read_header
  reads_unknown h = rw (le-ltb (length s) 8 l) (one_unknown type_in status_in h)

-- writing
module _ (type status length spid id window : ℕ) where
  abbrev pub header : Answer (List ℕ)
  header = and_then (header_given type status length spid id window) write_header

  abbrev bytes : List ℕ
  bytes = header_bytes (header_made type status length spid id window)

  abbrev given : Bool → Bool → Answer (List ℕ)
  given x y =
      and_then
      (and_then (pick x (gives type) (refuses unknown)) (λ t.
      and_then (pick y (gives status) (refuses unknown)) (λ u.
      gives (header_made t u length spid id window))))
      write_header

  given-known : (x y : Bool) → pick x y false ≡ true → given x y ≡ gives bytes
  unfolding write_header
  given-known true true h = refl
  given-known true false h = clash cc
  given-known false y h = clash cc

  given-unknown : (x y : Bool) → pick x y false ≡ false → refuses unknown ≡ given x y
  given-unknown true true h = clash cc
  given-unknown true false h = refl
  given-unknown false y h = refl

  abbrev judges : Bool
  judges = pick (listed packet_types type) (listed packet_statuses status) false

  pub is_known : judges ≡ true → header ≡ gives bytes
  unfolding known
  is_known h = given-known (listed packet_types type) (listed packet_statuses status) h

  pub is_unknown : judges ≡ false → refuses unknown ≡ header
  unfolding known
  is_unknown h = given-unknown (listed packet_types type) (listed packet_statuses status) h
