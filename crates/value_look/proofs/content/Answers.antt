-- `value_look::content` meets its contract: the declared length says which form. Assumes nothing.
use mathlib.Core.Path.{sym, ◌∙◌}
use Rattle.value_look.proofs.content.Goals as goal

pub returns-then-is_plp : goal.returns-then-is_plp
returns-then-is_plp c =
    let t = sym c.is_plp.ensures ∙ c.if-is_plp.true in
    record {
      told = rw t;
      lies = t;
    }

pub returns : goal.returns
returns c =
    let t = sym c.is_plp.ensures ∙ c.if-is_plp.false in
    record {
      told = rw t c.short.ensures.told;
      lies = c.short.ensures.lies t;
    }
