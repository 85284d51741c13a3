-- `column_size::schema_size` meets its contract: only Xml has one. Assumes nothing.
use mathlib.Core.Path.{sym, ap, ◌∙◌}
use lib.ListN.{length}
use Rattle.column_type.specs.Told.{type_told, schema_told}
use Rattle.column_type.proofs.WriteLaws.{is_xml_lem, not_xml}
use borrow.Author.Rules.{rules}
use Rattle.column_size.proofs.schema_size.Goals as goal

pub returns-then-is_xml : goal.returns-then-is_xml
returns-then-is_xml c =
    let a = c.args in
    let h = is_xml_lem (type_told a.t) (sym c.is_xml.ensures ∙ c.if-is_xml.true) in
    (rw h c.marked_size.ensures.0, c.marked_size.ensures.1)

pub returns-else-is_xml : goal.returns-else-is_xml
returns-else-is_xml c =
    let a = c.args in
    let h = not_xml (type_told a.t) (schema_told a.names.now a.n) (sym c.is_xml.ensures ∙ c.if-is_xml.false) in
    (sym (ap length h), search rules)
