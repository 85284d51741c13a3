-- `content_size::content::framed` meets its contract: what the content comes to says which case of the definition holds. Assumes nothing.
use Rattle.wire.proofs.Exit.{exit_is}
use Rattle.value_kind.proofs.ContentLaws.{framed-refused, framed-long, framed-size}
use Rattle.content_size.proofs.content.framed.Goals as goal

pub returns-in_err-n : goal.returns-in_err-n
returns-in_err-n c =
    let a = c.args in
    rw (exit_is _ _ c.from_residual.ensures.1) (λ h l. framed-refused h a.plp a.bound _ _ c.in_err-n.ensures)

pub returns-then-bound-n : goal.returns-then-bound-n
returns-then-bound-n c =
    let a = c.args in
    λ h l. framed-long h a.plp a.bound _ _ c.in_ok-n.ensures c.if-bound-n.true

pub returns : goal.returns
returns c =
    let a = c.args in
    λ h l. rw (← l) (framed-size h a.plp a.bound _ _ _ c.in_ok-n.ensures c.if-bound-n.false c.formed.ensures.0)
