-- `column_put::inner::put_schema` meets its contract: only Xml has one. Assumes nothing.
use mathlib.Core.Path.{sym, ◌∙◌}
use Rattle.column_type.specs.Told.{type_told, schema_told}
use Rattle.column_type.proofs.WriteLaws.{is_xml_lem, not_xml}
use Rattle.column_put.proofs.inner.put_schema.Goals as goal

pub put_marked-requires : goal.put_marked-requires
put_marked-requires c =
    let h = is_xml_lem (type_told c.args.t) (sym c.is_xml.ensures ∙ c.if-is_xml.true) in
    (c.requires.0, rw h at c.requires.1)

pub returns-then-is_xml : goal.returns-then-is_xml
returns-then-is_xml c =
    let h = is_xml_lem (type_told c.args.t) (sym c.is_xml.ensures ∙ c.if-is_xml.true) in
    rw h c.put_marked.ensures

pub returns-else-is_xml : goal.returns-else-is_xml
returns-else-is_xml c =
    let a = c.args in
    rw (not_xml (type_told a.t) (schema_told a.names.now a.n) (sym c.is_xml.ensures ∙ c.if-is_xml.false))
