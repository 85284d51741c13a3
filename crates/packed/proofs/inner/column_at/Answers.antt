-- `packed::inner::column_at` meets its contract. Assumes nothing.
use Rattle.lists.proofs.Lent.{rest_is}
use mathlib.Core.Path.{◌∙◌}
use Prim.Native.Nat.{◌*◌}
use Rattle.packed.proofs.inner.column_at.Goals as goal

pub returns : goal.returns
returns c =
    let a = c.args in
    c.column_of.ensures ∙ rw (rest_is a.table.now (16 * a.i))
