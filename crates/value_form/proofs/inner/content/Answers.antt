-- `value_form::inner::content` meets its contract: by the declared length. Assumes nothing.
use mathlib.Core.Path.{sym, ap, ◌∙◌}
use mathlib.Core.Bool.{Bool}
use Rattle.format.specs.Answer.{map_read}
use Rattle.format.specs.Plp.{read_plp, plp_bytes}
use Rattle.value_kind.specs.Told.{content_kind_told}
use Rattle.value_form.proofs.Forming.{plp_normal}
use Rattle.value_form.proofs.inner.content.Goals as goal

pub returns-then-is_plp : goal.returns-then-is_plp
returns-then-is_plp c =
    let a = c.args in
    ap (λ (text : Bool). map_read plp_bytes (read_plp text a.rest.now)) c.is_text-text.ensures
    ∙ plp_normal (content_kind_told a.k) a.declared a.rest.now (sym c.is_plp.ensures ∙ c.if-is_plp.true)

pub short-requires : goal.short-requires
short-requires c = (sym c.is_plp.ensures ∙ c.if-is_plp.false, c.requires)
