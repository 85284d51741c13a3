-- `value_fill::inner::fill` meets its contract: each kind of value fills its own form. Assumes nothing.
use mathlib.Core.Path.{sym, ap, ◌∙◌}
use Rattle.format.specs.Answer.{wrote}
use Rattle.format.specs.Value.{ContentKind}
use Rattle.value_kind.specs.Told.{family_told, span_told}
use Rattle.value_kind.proofs.FormLaws.{content-written}
use Rattle.value_fill.proofs.inner.fill.Goals as goal

pub fill_null-requires : goal.fill_null-requires
fill_null-requires c = rw c.in-Null.is at c.requires

pub fill_scalar-requires : goal.fill_scalar-requires
fill_scalar-requires c = rw c.in-Scalar.is at c.requires

pub fill_span-requires : goal.fill_span-requires
fill_span-requires c =
    let p = rw c.in-Binary.is at c.requires in
    let e = content-written c.args.declared (span_told c.args.buffer.now c.in-Binary.p) _ (family_told c.args.f) ContentKind.binary p in
    rw c.is_plp-plp.ensures (p ∙ ap wrote e)

pub fill_span-requires-in-String : goal.fill_span-requires-in-String
fill_span-requires-in-String c =
    let p = rw c.in-String.is at c.requires in
    let e = content-written c.args.declared (span_told c.args.buffer.now c.in-String.p) _ (family_told c.args.f) ContentKind.string p in
    rw c.is_plp-plp.ensures (p ∙ ap wrote e)

pub returns-in-Null : goal.returns-in-Null
returns-in-Null c = rw c.in-Null.is c.fill_null.ensures

pub returns-in-Scalar : goal.returns-in-Scalar
returns-in-Scalar c = rw c.in-Scalar.is c.fill_scalar.ensures

pub returns-in-Binary : goal.returns-in-Binary
returns-in-Binary c =
    let p = rw c.in-Binary.is at c.requires in
    let e = content-written c.args.declared (span_told c.args.buffer.now c.in-Binary.p) _ (family_told c.args.f) ContentKind.binary p in
    rw c.in-Binary.is (rw c.is_plp-plp.ensures at c.fill_span.ensures ∙ sym e)

pub returns-in-String : goal.returns-in-String
returns-in-String c =
    let p = rw c.in-String.is at c.requires in
    let e = content-written c.args.declared (span_told c.args.buffer.now c.in-String.p) _ (family_told c.args.f) ContentKind.string p in
    rw c.in-String.is (rw c.is_plp-plp.ensures at c.fill_span-in-String.ensures ∙ sym e)
