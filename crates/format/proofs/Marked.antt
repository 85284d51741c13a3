-- Document 01, "Marked bytes": the twelve cases as one statement over one list.
-- `marked` is the list, `Holds` says what each line of it states of the definitions, and `all_marked` proves all of them by computing.
-- Assumes nothing.
use mathlib.Core.Path.{◌≡◌, refl}
use mathlib.Core.List.{List, [], ◌∷◌}
use mathlib.Core.Bool.{false}
use Prim.Native.Nat.{ℕ}
use lib.IntN.{negsuc}
use Rattle.format.specs.Answer.{Answer, gives, refuses, Read, took, stops, unknown, long, sequence, inside, then_read}
use Rattle.format.specs.Number.{signed, unsigned, read_bytes, read_byte, read_low}
use Rattle.format.specs.Guid.{guid_order}
use Rattle.format.specs.Text.{char8, utf16, scalars, spelled, text_in}
use Rattle.format.specs.Header.{Header, read_header, write_header}
use Rattle.format.specs.Prelogin.{Prelogin, write_prelogin}
use Rattle.format.specs.Descriptor.{ByteLen, UShortLen, byte_len, u_short_len, daten, xml, Column, plain, with_sort, type_of, read_column, keeps_rule}
use Rattle.format.specs.Descriptor.{column_bytes, write_column}
use Rattle.format.specs.Scalar.{Scalar, scalar_of, scalar_bytes, read_scalar}
use Rattle.format.specs.Plp.{plp_bound, read_plp_head, end_of, chunk_of, take_head, walk_from, join_from, read_plp, plp_bytes}
use Rattle.format.specs.Value.{Value, Given, read_value, encode, write_value}
use Rattle.format.specs.Row.{read_values, read_row}
use Rattle.format.specs.Normal.{encode_row, normal}

-- What a marked line says: these bytes read so; this is written so; this row has that normal form.
pub data Case : Type 0 where
  header_reads : List ℕ → Read Header → Case
  header_writes : Header → List ℕ → Case
  prelogin_writes : Prelogin → List ℕ → Case
  column_reads : List ℕ → Read Column → Case
  column_writes : Column → List ℕ → Case
  value_reads : Column → List ℕ → Read Value → Case
  value_writes : Column → Given → Answer (List ℕ) → Case
  row_reads : List Column → List ℕ → Read (List Value) → Case
  normal_form : List Column → List ℕ → Read (List ℕ) → Case

abbrev pub Holds : Case → Type 0
Holds (header_reads s answer) = read_header s ≡ answer
Holds (header_writes h bytes) = write_header h ≡ gives bytes
Holds (prelogin_writes p bytes) = write_prelogin p ≡ gives bytes
Holds (column_reads s answer) = read_column s ≡ answer
Holds (column_writes c bytes) = write_column c ≡ gives bytes
Holds (value_reads c s answer) = read_value c s ≡ answer
Holds (value_writes c v answer) = write_value c v ≡ answer
Holds (row_reads cs s answer) = read_row cs s ≡ answer
Holds (normal_form cs s answer) = normal cs s ≡ answer

abbrev pub All : List Case → Type 0
All [] = Unit {0}
All (c ∷ cs) = Holds c × All cs

-- ---- what the lines name

abbrev header1 : Header
header1 = record { type = 4; status = 1; length = 32; spid = 51; id = 1; window = 0 }

abbrev bytes1 : List ℕ
bytes1 = 0x04 ∷ 0x01 ∷ 0x00 ∷ 0x20 ∷ 0x00 ∷ 0x33 ∷ 0x01 ∷ 0x00 ∷ []

abbrev prelogin3 : Prelogin
prelogin3 = record { version = 0; sub_build = 0; encryption = 2; thread_id = 0; mars = false; fed_auth_required = false }

abbrev bytes3 : List ℕ
bytes3 =
    0x00 ∷ 0x00 ∷ 0x15 ∷ 0x00 ∷ 0x06 ∷ 0x01 ∷ 0x00 ∷ 0x1B ∷ 0x00 ∷ 0x01 ∷ 0x03 ∷ 0x00 ∷ 0x1C ∷ 0x00 ∷ 0x04 ∷ 0x04 ∷ 0x00 ∷ 0x20 ∷ 0x00 ∷ 0x01 ∷ 0xFF
    ∷ 0x00 ∷ 0x00 ∷ 0x00 ∷ 0x00 ∷ 0x00 ∷ 0x00 ∷ 0x02 ∷ 0x00 ∷ 0x00 ∷ 0x00 ∷ 0x00 ∷ 0x00 ∷ []

abbrev column4 : Column
column4 = with_sort (u_short_len UShortLen.n_varchar) 8000 0x00D00409 52

abbrev bytes4 : List ℕ
bytes4 = 0xE7 ∷ 0x40 ∷ 0x1F ∷ 0x09 ∷ 0x04 ∷ 0xD0 ∷ 0x00 ∷ 0x34 ∷ []

abbrev n_varchar : ℕ → Column
n_varchar n = with_sort (u_short_len UShortLen.n_varchar) n 0x00D00409 52

abbrev var_bin_max : Column
var_bin_max = plain (u_short_len UShortLen.big_var_bin) 65535

abbrev intn4 : Column
intn4 = plain (byte_len ByteLen.intn) 4

abbrev guid16 : Column
guid16 = plain (byte_len ByteLen.guid) 16

abbrev chunks10 : List ℕ
chunks10 =
    0xFE ∷ 0xFF ∷ 0xFF ∷ 0xFF ∷ 0xFF ∷ 0xFF ∷ 0xFF ∷ 0xFF ∷ 0x01 ∷ 0x00 ∷ 0x00 ∷ 0x00 ∷ 0xAA ∷ 0x02 ∷ 0x00 ∷ 0x00 ∷ 0x00 ∷ 0xBB ∷ 0xCC ∷ 0x00 ∷ 0x00 ∷
    0x00 ∷ 0x00 ∷ []

abbrev normal10 : List ℕ
normal10 =
    0xFE ∷ 0xFF ∷ 0xFF ∷ 0xFF ∷ 0xFF ∷ 0xFF ∷ 0xFF ∷ 0xFF ∷ 0x03 ∷ 0x00 ∷ 0x00 ∷ 0x00 ∷ 0xAA ∷ 0xBB ∷ 0xCC ∷ 0x00 ∷ 0x00 ∷ 0x00 ∷ 0x00 ∷ []

abbrev total11 : List ℕ
total11 = 0x02 ∷ 0x00 ∷ 0x00 ∷ 0x00 ∷ 0x00 ∷ 0x00 ∷ 0x00 ∷ 0x00 ∷ 0x03 ∷ 0x00 ∷ 0x00 ∷ 0x00 ∷ 0xAA ∷ 0xBB ∷ 0xCC ∷ 0x00 ∷ 0x00 ∷ 0x00 ∷ 0x00 ∷ []

abbrev guid12 : List ℕ
guid12 = 0x00 ∷ 0x11 ∷ 0x22 ∷ 0x33 ∷ 0x44 ∷ 0x55 ∷ 0x66 ∷ 0x77 ∷ 0x88 ∷ 0x99 ∷ 0xAA ∷ 0xBB ∷ 0xCC ∷ 0xDD ∷ 0xEE ∷ 0xFF ∷ []

abbrev bytes12 : List ℕ
bytes12 = 0x10 ∷ 0x33 ∷ 0x22 ∷ 0x11 ∷ 0x00 ∷ 0x55 ∷ 0x44 ∷ 0x77 ∷ 0x66 ∷ 0x88 ∷ 0x99 ∷ 0xAA ∷ 0xBB ∷ 0xCC ∷ 0xDD ∷ 0xEE ∷ 0xFF ∷ []

-- ---- the list, in document 01's order

abbrev pub marked : List Case
marked =
    -- 1
    header_reads bytes1 (took header1 8)
    ∷ header_writes header1 bytes1
    -- 2
    ∷ header_reads (0x04 ∷ 0x09 ∷ 1 ∷ 2 ∷ 3 ∷ 4 ∷ 5 ∷ 6 ∷ []) (stops unknown)
    -- 3
    ∷ prelogin_writes prelogin3 bytes3
    -- 4
    ∷ column_reads bytes4 (took column4 8)
    ∷ column_writes column4 bytes4
    -- 5
    ∷ column_reads (0x28 ∷ []) (took (plain daten 3) 1)
    ∷ column_writes (plain daten 3) (0x28 ∷ [])
    -- 6
    ∷ column_reads (0xF1 ∷ 0x02 ∷ []) (took (plain xml 0) 2)
    ∷ column_writes (plain xml 0) (0xF1 ∷ 0x00 ∷ [])
    -- 7
    ∷ value_writes intn4 (Given.scalar (Scalar.i32 (negsuc 1))) (gives (0x04 ∷ 0xFE ∷ 0xFF ∷ 0xFF ∷ 0xFF ∷ []))
    -- 8
    ∷ value_writes (n_varchar 2) (Given.string (inside (0xC3 ∷ 0xA9 ∷ []))) (gives (0x02 ∷ 0x00 ∷ 0xE9 ∷ 0x00 ∷ []))
    ∷ value_writes (n_varchar 1) (Given.string (inside (0xC3 ∷ 0xA9 ∷ []))) (refuses long)
    -- 9
    ∷ value_writes var_bin_max (Given.binary (inside [])) (gives (0xFE ∷ 0xFF ∷ 0xFF ∷ 0xFF ∷ 0xFF ∷ 0xFF ∷ 0xFF ∷ 0xFF ∷ 0x00 ∷ 0x00 ∷ 0x00 ∷ 0x00 ∷ []))
    -- 10
    ∷ normal_form (var_bin_max ∷ []) chunks10 (took normal10 23)
    -- 11
    ∷ value_reads var_bin_max total11 (stops sequence)
    -- 12
    ∷ value_writes guid16 (Given.scalar (Scalar.guid guid12)) (gives bytes12)
    -- "No columns: an empty row, nothing consumed."
    ∷ row_reads [] [] (took [] 0)
    ∷ []

pub all_marked : All marked
unfolding then_read signed unsigned read_bytes read_byte read_low guid_order char8 utf16 scalars spelled text_in read_header write_header write_prelogin
    type_of read_column keeps_rule column_bytes write_column scalar_of scalar_bytes read_scalar plp_bound read_plp_head end_of chunk_of take_head walk_from
    join_from
    read_plp plp_bytes read_value encode write_value read_values read_row encode_row normal
all_marked = (refl, (refl, (refl, (refl, (refl, (refl, (refl, (refl, (refl, (refl, (refl, (refl, (refl, (refl, (refl, (refl, (refl, (refl, tt))))))))))))))))))
