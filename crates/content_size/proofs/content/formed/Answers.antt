-- `content_size::content::formed` meets its contract: the counts of the two forms. Assumes nothing.
use mathlib.Core.Path.{◌∙◌}
use Prim.Native.Nat.{◌<◌}
use native.Mathlib.Omega.{arith}
use Rattle.value_kind.proofs.ContentLaws.{short-size, plp_none, plp_size}
use Rattle.content_size.proofs.content.formed.Goals as goal

pub returns-then-n-eq0 : goal.returns-then-n-eq0
returns-then-n-eq0 c = rw c.if-plp.true (λ l e. plp_none l (e ∙ c.if-n-eq0.true), omega arith)

pub returns-then-plp : goal.returns-then-plp
returns-then-plp c =
    let p : 0 < c.args.n = omega (arith, c.if-n-eq0.false) in
    rw c.if-plp.true (λ l e. rw (← e) (plp_size l (rw e p)), omega arith)

pub returns : goal.returns
returns c = rw c.if-plp.false (λ l e. rw (← e) (short-size l), omega arith)
