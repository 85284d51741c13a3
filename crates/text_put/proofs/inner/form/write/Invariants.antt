use Prim.Native.Nat.{◌-◌}
use lib.ListN.{length}
use Rattle.text_char.proofs.Turns.{Writing}
use Rattle.wire.proofs.Writing.{given}
use Rattle.text_put.specs.Turned.{turned}
use Rattle.text_put.proofs.inner.form.write.Given as goal

abbrev pub invariant-loop-at : goal.invariant-loop-at
invariant-loop-at g l =
    let f = g.F.TextForm in
    let t = g.T.TextForm in
    Writing f.char t.spell l.s (given (turned f.UNIT f.char t.spell l.s)) l.initial.out l.out l.at l.o

abbrev pub decreases-loop-at : goal.decreases-loop-at
decreases-loop-at g l = length l.s - l.at
