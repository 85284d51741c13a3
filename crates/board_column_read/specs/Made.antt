-- A column's record and its names' numbers, as the code makes them of the declared types. proofs/Laws.antt says that they are those of specs/Plain.antt.
use Rattle.std.specs.Prelude.{None, Option, Some}
use Rattle.std.specs.Prelude.{ℕ, ◌+◌, ◌/◌, ◌%◌, List, [], ◌∷◌}
use Rattle.format.specs.Descriptor.{type_byte}
use Rattle.column_type.specs.Told.{type_told}
use Rattle.column_type.specs.declared.Collation.{Collation}
use Rattle.column_type.specs.declared.Schema.{Schema}
use Rattle.column_type.specs.declared.Column.{Column}

abbrev pub schema_flag : Option Schema → ℕ
schema_flag None = 0
schema_flag (Some n) = 2

abbrev pub flags : Option Collation → Option Schema → ℕ
flags None s = schema_flag s
flags (Some c) s = 1 + schema_flag s

abbrev pub info : Option Collation → ℕ
info None = 0
info (Some c) = c.info

abbrev pub sort : Option Collation → ℕ
sort None = 0
sort (Some c) = c.sort

abbrev pub index_of : Option Schema → ℕ → ℕ
index_of None index = 0
index_of (Some n) index = index

-- the lowest byte
abbrev pub low : ℕ → ℕ
low n = n % 256

unfoldable pub record_made : Column → ℕ → List ℕ
record_made c index =
    let n = c.length in
    let i = info c.collation in
    let x = index_of c.schema index in
    type_byte (type_told c.ty) ∷ flags c.collation c.schema ∷ c.precision ∷ c.scale
    ∷ low n ∷ low (n / 256) ∷ low (n / 256 / 256) ∷ low (n / 256 / 256 / 256)
    ∷ low i ∷ low (i / 256) ∷ low (i / 256 / 256) ∷ low (i / 256 / 256 / 256) ∷ sort c.collation
    ∷ 0 ∷ low x ∷ low (x / 256) ∷ []

abbrev pub names_made : Option Schema → List ℕ
names_made None = 0 ∷ 0 ∷ 0 ∷ 0 ∷ 0 ∷ 0 ∷ []
names_made (Some n) =
    n.database.start ∷ n.database.units ∷ n.owner.start ∷ n.owner.units ∷ n.collection.start ∷ n.collection.units ∷ []
