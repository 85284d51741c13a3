-- `column_put::inner::put_names` meets its contract: three runs of stores are one. Assumes nothing.
use mathlib.Core.Path.{sym, ap, ◌∙◌}
use mathlib.Core.List.{◌++◌}
use Prim.Native.Nat.{◌+◌}
use Rattle.format.specs.Descriptor.{name_bytes}
use Rattle.lists.proofs.Front.{sets_then}
use Rattle.column_type.specs.Told.{name_told}
use Rattle.column_type.proofs.WriteLaws.{length-named}
use lib.Seq.{sets}
use Prim.Native.Nat.{ℕ}
use Rattle.column_put.proofs.inner.put_names.Goals as goal

pub returns : goal.returns
returns c =
    let a = c.args in
    let s = a.names.now in
    let p = c.requires in
    let x = name_bytes 1 (name_told s a.three.database) in
    let y = name_bytes 1 (name_told s a.three.owner) in
    let z = name_bytes 2 (name_told s a.three.collection) in
    let e = c.put_name-second.ensures.next ∙ ap (λ (k : ℕ). a.at + k) (sym (length-named s a.three.database 1 p.0)) in
    let f = c.put_name-third.ensures.next ∙ ap (λ (k : ℕ). c.put_name-second.result + k) (sym (length-named s a.three.owner 1 p.1)) in
    rw (c.put_name.ensures.room, c.put_name-third.ensures.room, c.put_name-second.ensures.room)
    (sets_then (sets a.out.now a.at x) c.put_name-second.result c.put_name-third.result y z f ∙ sets_then a.out.now
    a.at c.put_name-second.result x (y ++ z) e)
