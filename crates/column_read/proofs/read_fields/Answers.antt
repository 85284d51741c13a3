-- `column_read::read_fields` meets its contract: the fields of each family; one reader serves every type with a length. Assumes nothing.
use mathlib.Core.Logic.{inl, inr}
use mathlib.Core.Path.{sym, ap, ◌∙◌}
use Prim.Native.Nat.{◌+◌}
use Rattle.column_type.specs.Told.{fixed_told, byte_len_told, u_short_len_told, long_len_told, type_told}
use Rattle.column_read.proofs.FieldLaws.{fixed_fields, daten_fields, xml_fields, udt_fields, variant_fields}
use Rattle.column_read.proofs.Laws.{one, two, four, sized_fields}
use Rattle.column_read.proofs.read_fields.Goals as goal

pub returns-in-Fixed : goal.returns-in-Fixed
returns-in-Fixed c =
    let a = c.args in
    let e = fixed_fields (type_told a.t) a.s.now a.cursor.at (fixed_told c.in-Fixed.field-0) (ap type_told c.in-Fixed.is) c.requires in
    (rw c.plain.ensures (sym e), rw c.plain.ensures tt)

pub returns-in-Byte : goal.returns-in-Byte
returns-in-Byte c =
    let a = c.args in
    let q = ap type_told c.in-Byte.is in
    let e = sized_fields (type_told a.t) 1 a.s.now a.cursor.at (rw q (one (byte_len_told c.in-Byte.field-0))) in
    (c.read_sized.ensures.0 ∙ sym e, c.read_sized.ensures.1 (a.cursor.at + 2))

pub returns-in-UShort : goal.returns-in-UShort
returns-in-UShort c =
    let a = c.args in
    let q = ap type_told c.in-UShort.is in
    let e = sized_fields (type_told a.t) 2 a.s.now a.cursor.at (rw q (two (u_short_len_told c.in-UShort.field-0))) in
    (c.read_sized-in-UShort.ensures.0 ∙ sym e, c.read_sized-in-UShort.ensures.1 (a.cursor.at + 2))

pub returns-in-Long : goal.returns-in-Long
returns-in-Long c =
    let a = c.args in
    let q = ap type_told c.in-Long.is in
    let e = sized_fields (type_told a.t) 4 a.s.now a.cursor.at (rw q (four (long_len_told c.in-Long.field-0))) in
    (c.read_sized-in-Long.ensures.0 ∙ sym e, c.read_sized-in-Long.ensures.1 (a.cursor.at + 2))

pub returns-in-Daten : goal.returns-in-Daten
returns-in-Daten c =
    let a = c.args in
    let e = daten_fields (type_told a.t) a.s.now a.cursor.at (ap type_told c.in-Daten.is) c.requires in
    (rw c.plain-in-Daten.ensures (sym e), rw c.plain-in-Daten.ensures tt)

pub returns-in-Xml : goal.returns-in-Xml
returns-in-Xml c =
    let a = c.args in
    let e = xml_fields (type_told a.t) a.s.now a.cursor.at (ap type_told c.in-Xml.is) in
    (c.read_xml.ensures.told ∙ sym e, c.read_xml.ensures.names)

pub returns-in-Udt : goal.returns-in-Udt
returns-in-Udt c =
    let a = c.args in (
      elim c.in-Udt.is [
        | inl e ↦ sym (udt_fields (type_told a.t) a.s.now a.cursor.at (ap type_told e) c.requires)
        | inr e ↦ sym (variant_fields (type_told a.t) a.s.now a.cursor.at (ap type_told e) c.requires)
      ],
      tt,
    )
