-- `value_fill::inner::fill_null` meets its contract: one run of stores, the family's null. Assumes nothing.
use mathlib.Core.Path.{refl, sym, ◌∙◌}
use native.Mathlib.Omega.{arith}
use mathlib.Core.List.{[], ◌∷◌}
use Rattle.format.specs.Number.{low_bytes}
use Rattle.format.specs.Plp.{plp_null}
use Rattle.format.specs.Value.{short_null}
use Rattle.format.specs.Answer.{gives, kind, not_carried}
use Rattle.value_kind.specs.Told.{content_kind_told}
use Rattle.wire.proofs.Writing.{not_refused, count_is, filled}
use Rattle.value_kind.proofs.ContentLaws.{null_plp, null-short}
use Rattle.value_fill.proofs.inner.fill_null.Goals as goal

pub put_byte-requires : goal.put_byte-requires
put_byte-requires c = omega (arith, count_is (gives (0 ∷ [])) _ (0 ∷ []) (rw c.in-LengthByte.is at c.requires) refl)

pub put_low-requires : goal.put_low-requires
put_low-requires c =
    let p = rw c.in-Content.is at c.requires in
    let n = null_plp c.args.declared (content_kind_told c.in-Content.field-0) (sym c.is_plp.ensures ∙ c.if-is_plp.true) in
    omega (arith, count_is _ _ (low_bytes 8 plp_null) p n)

pub returns-then-is_plp : goal.returns-then-is_plp
returns-then-is_plp c =
    let p = rw c.in-Content.is at c.requires in
    let n = null_plp c.args.declared (content_kind_told c.in-Content.field-0) (sym c.is_plp.ensures ∙ c.if-is_plp.true) in
    rw c.in-Content.is (filled _ c.args.out.now _ (low_bytes 8 plp_null) p n c.put_low.ensures)

pub put_low-requires-in-Content : goal.put_low-requires-in-Content
put_low-requires-in-Content c =
    let p = rw c.in-Content.is at c.requires in
    let n = null-short c.args.declared (content_kind_told c.in-Content.field-0) (sym c.is_plp.ensures ∙ c.if-is_plp.false) in
    omega (arith, count_is _ _ (low_bytes 2 short_null) p n)

pub returns-in-Fixed : goal.returns-in-Fixed
returns-in-Fixed c = not_refused kind _ (rw c.in-Fixed.is at c.requires)

pub returns-in-LengthByte : goal.returns-in-LengthByte
returns-in-LengthByte c =
    rw c.in-LengthByte.is
    (filled _ c.args.out.now _ (0 ∷ []) (rw c.in-LengthByte.is at c.requires) refl c.put_byte.ensures)

pub returns-else-is_plp : goal.returns-else-is_plp
returns-else-is_plp c =
    let p = rw c.in-Content.is at c.requires in
    let n = null-short c.args.declared (content_kind_told c.in-Content.field-0) (sym c.is_plp.ensures ∙ c.if-is_plp.false) in
    rw c.in-Content.is (filled _ c.args.out.now _ (low_bytes 2 short_null) p n c.put_low-in-Content.ensures)

pub returns-in-NotCarried : goal.returns-in-NotCarried
returns-in-NotCarried c = not_refused not_carried _ (rw c.in-NotCarried.is at c.requires)
