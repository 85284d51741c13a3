-- `header::read_header` meets its contract: behind the end refusal 1, else the header that the rest begins with. Assumes nothing.
use mathlib.Core.Path.{sym, ap, ◌∙◌}
use mathlib.Core.List.{List}
use Prim.Native.Nat.{ℕ}
use Rattle.lists.proofs.Lent.{rest_is}
use Rattle.format.specs.Answer.{further}
use Rattle.format.specs.Header.{read_header}
use Rattle.format.proofs.Place.{at_behind, at_inside}
use Rattle.header.proofs.read_header.Goals as goal

pub returns-then-s-at : goal.returns-then-s-at
returns-then-s-at c = let a = c.args in sym (at_behind read_header a.s.now a.from.at c.if-s-at.true)

pub returns : goal.returns
returns c =
    let a = c.args in
    c.header_in.ensures
    ∙ (ap (λ (l : List ℕ). further a.from.at (read_header l)) (rest_is a.s.now a.from.at)
    ∙ sym (at_inside read_header a.s.now a.from.at c.if-s-at.false))
