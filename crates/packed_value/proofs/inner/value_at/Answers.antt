-- `packed_value::inner::value_at` meets its contract. Assumes nothing.
use mathlib.Core.Path.{◌∙◌}
use Prim.Native.Nat.{◌*◌}
use native.Mathlib.Nat.{add-zero}
use lib.Seq.{get_or-drop}
use Rattle.packed_value.proofs.inner.value_at.Goals as goal

pub returns : goal.returns
returns c =
    let a = c.args in
    let vs = a.values.now in
    let at = 3 * a.i in
    let three = c.at.ensures in
    c.from.ensures
    ∙ rw (three.kind, three.first, three.second, get_or-drop at vs 0 0, get_or-drop at vs 1 0, get_or-drop at vs 2 0, add-zero at)
