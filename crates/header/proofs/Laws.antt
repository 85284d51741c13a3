-- What the definition of a header says once its tests are known: a header, or the refusal that comes first.
-- Assumes nothing.
use mathlib.Core.Path.{◌≡◌}
use mathlib.Core.List.{List}
use mathlib.Core.Bool.{true, false}
use Prim.Native.Nat.{ℕ, ◌<◌, ◌≤◌}
use lib.ListN.{length, get_or}
use borrow.Author.Tests.{lt-ltb, le-ltb}
use Rattle.format.specs.Answer.{took, stops, missing, unknown}
use Rattle.format.specs.Header.{listed, packet_types, packet_statuses, header_of, read_header}

module _ (s : List ℕ) where
  pub header-short : length s < 8 → read_header s ≡ stops missing
  unfolding read_header
  header-short h = rw (lt-ltb (length s) 8 h)

  pub header-type : 8 ≤ length s → listed packet_types (get_or s 0 0) ≡ false → read_header s ≡ stops unknown
  unfolding read_header
  header-type h t = rw (le-ltb (length s) 8 h, t)

  pub header-status : 8 ≤ length s → listed packet_types (get_or s 0 0) ≡ true → listed packet_statuses (get_or s 1 0) ≡ false → read_header s ≡ stops unknown
  unfolding read_header
  header-status h t u = rw (le-ltb (length s) 8 h, t, u)

  pub header_there : 8 ≤ length s → listed packet_types (get_or s 0 0) ≡ true → listed packet_statuses (get_or s 1 0) ≡ true → read_header s
      ≡ took (header_of s) 8
  unfolding read_header
  header_there h t u = rw (le-ltb (length s) 8 h, t, u)
