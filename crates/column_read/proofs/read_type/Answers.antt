-- `column_read::read_type` meets its contract: the fields of the byte's type, or refusal 2. Assumes nothing.
use mathlib.Core.Path.{sym, ◌∙◌}
use Rattle.wire.specs.Told.{refusal_told}
use Rattle.wire.proofs.Exit.{exit_is}
use Rattle.column_type.specs.Told.{type_told}
use Rattle.column_read.proofs.FieldLaws.{known-type, unknown-type}
use Rattle.column_read.proofs.read_type.Goals as goal

pub returns-in_err-t : goal.returns-in_err-t
returns-in_err-t c =
    let a = c.args in
    rw (exit_is _ _ c.from_residual.ensures.1)
    (sym (unknown-type a.b a.s.now a.cursor.at (refusal_told c.in_err-t.field-0.0) (sym c.in_err-t.ensures) c.requires), tt)

pub returns : goal.returns
returns c =
    let a = c.args in
    (c.read_fields.ensures.0 ∙ sym (known-type a.b a.s.now a.cursor.at (type_told c.in_ok-t.t) (sym c.in_ok-t.ensures)), c.read_fields.ensures.1)
