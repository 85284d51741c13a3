-- `plain_look::inner::look_at` meets its contract: what is told of the column, and the width under it. Assumes nothing.
use Prim.Native.Nat.{◌*◌}
use lib.ListN.{drop}
use Rattle.packed.specs.Packed.{column_of, no_names}
use Rattle.plain_look.proofs.inner.look_at.Goals as goal

pub returns : goal.returns
returns c = c.in_ok-n.ensures (column_of (drop (16 * c.args.i) c.args.table.now) no_names) c.in_ok-p.ensures
