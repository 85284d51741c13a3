-- `packed::column_of` meets its contract. Assumes nothing.
use mathlib.Core.Path.{sym, ap, ◌∙◌}
use Rattle.wire.specs.Told.{refusal_told}
use Rattle.column_type.specs.Told.{type_read_told}
use Rattle.packed.proofs.Places.{short, made_broken, made_unknown, made_typed}
use Rattle.packed.proofs.column_of.Goals as goal

pub returns-then-r-lt16 : goal.returns-then-r-lt16
returns-then-r-lt16 c =
    let a = c.args in
    c.broken.ensures ∙ made_broken a.r.now a.names.database a.names.owner a.names.collection (short a.r.now c.if-r-lt16.true)

pub returns-then-not-keeps_places : goal.returns-then-not-keeps_places
returns-then-not-keeps_places c =
    let a = c.args in
    let k = sym c.keeps_places.ensures ∙ c.if-not-keeps_places.true in
    c.broken-then-not-keeps_places.ensures ∙ made_broken a.r.now a.names.database a.names.owner a.names.collection k

pub returns-in-Ok : goal.returns-in-Ok
returns-in-Ok c =
    let a = c.args in
    let k = sym c.keeps_places.ensures ∙ c.if-not-keeps_places.false in
    c.fields_of.ensures ∙ made_typed a.r.now a.names.database a.names.owner a.names.collection k c.in-Ok.ty c.in-Ok.ensures

pub returns-in-Err : goal.returns-in-Err
returns-in-Err c =
    let a = c.args in
    let k = sym c.keeps_places.ensures ∙ c.if-not-keeps_places.false in
    c.broken-in-Err.ensures
    ∙ made_unknown a.r.now a.names.database a.names.owner a.names.collection k (refusal_told c.in-Err.field-0) c.in-Err.ensures
