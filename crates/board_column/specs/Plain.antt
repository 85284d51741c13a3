-- A column's descriptor to be written: a record of 16 bytes, and beside it six numbers, start and units of XML_INFO's three names in the lent buffer.
use Rattle.std.specs.Prelude.{ℕ, ◌*◌, List, get_or}
use Rattle.format.specs.Answer.{Answer, Part, part}
use Rattle.format.specs.Descriptor.{Schema, write_column}
use Rattle.packed.specs.Packed.{column_of}

abbrev pub name_in : List ℕ → ℕ → ℕ → Part
name_in buffer start units = part buffer start (2 * units)

abbrev pub names_in : List ℕ → List ℕ → Schema
names_in buffer n =
    record {
      database = name_in buffer (get_or n 0 0) (get_or n 1 0);
      owner = name_in buffer (get_or n 2 0) (get_or n 3 0);
      collection = name_in buffer (get_or n 4 0) (get_or n 5 0);
    }

-- the column of the record, with the names that the numbers name
abbrev pub column_given : List ℕ → List ℕ → List ℕ → Answer (List ℕ)
column_given column names buffer = write_column (column_of column (names_in buffer names))
