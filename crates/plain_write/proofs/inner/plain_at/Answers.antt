-- `plain_write::inner::plain_at` meets its contract: what is told of the column, and the size under it. Assumes nothing.
use Rattle.plain_write.proofs.inner.plain_at.Goals as goal

pub returns : goal.returns
returns c = (c.in_ok-p.ensures, c.in_ok-n.ensures.0, c.in_ok-n.ensures.1)
