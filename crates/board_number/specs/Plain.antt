-- Numbers and GUIDs at a place of the input, asked for by plain numbers.
use Rattle.std.specs.Prelude.{ℕ, List, not, eqb, ltb}
use Rattle.lists.specs.Pick.{pick}
use Rattle.format.specs.Answer.{Read, unknown, stop_if, map_read, read_at}
use Rattle.format.specs.Number.{read_bytes, read_low, read_high}
use Rattle.format.specs.Guid.{guid_order}
use Rattle.format.specs.Header.{listed}
use Rattle.wire.specs.Told.{widths}

-- high byte first where the flag is 1, low byte first where it is 0
abbrev pub number_by : ℕ → ℕ → List ℕ → Read ℕ
number_by high w = pick (eqb high 1) (read_high w) (read_low w)

-- a number at a place; another width, or another flag, is 2 before anything else
abbrev pub number_at : ℕ → ℕ → List ℕ → ℕ → Read ℕ
number_at width high s at =
    stop_if (not (listed widths width)) unknown
    (stop_if (ltb 1 high) unknown
    (read_at (number_by high width) s at))

-- a GUID at a place: its sixteen bytes in text order
abbrev pub guid_at : List ℕ → ℕ → Read (List ℕ)
guid_at s at = map_read guid_order (read_at (read_bytes 16) s at)
