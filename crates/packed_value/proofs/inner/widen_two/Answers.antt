-- `packed_value::inner::widen_two` meets its contract: the integer, and its 64 bits. Assumes nothing.
use mathlib.Core.Path.{ap, ◌∙◌}
use mir.Syntax.{w16, w64}
use mir.Facts.{to_z-of_z}
use Rattle.format.specs.Number.{unsigned}
use Rattle.packed_value.proofs.inner.widen_two.Goals as goal

pub returns : goal.returns
returns c =
    let narrow = to_z-of_z {w = w16} (record { sfits = c.to_i16.type_inv }) in
    let wide = to_z-of_z {w = w64} (record { sfits = c.from.type_inv }) in
    c.of_i64.ensures ∙ ap (unsigned 8) (wide ∙ (c.from.ensures ∙ (narrow ∙ c.to_i16.ensures)))
