-- `plain_look::inner::bare` meets its contract. Assumes nothing.
use native.Mathlib.Omega.{arith}
use lib.ListN.{drop, length-drop}
use Rattle.format.proofs.Plain.{bytes_drop}
use Rattle.plain_look.proofs.Standing.{bare-width}
use Rattle.plain_look.proofs.inner.bare.Goals as goal

pub returns : goal.returns
returns c =
    let a = c.args in
    let s = a.s.now in
    bare-width a.k c.bytes-w.result (drop a.at s) c.bytes-w.ensures
    (bytes_drop a.at s (λ i. omega (arith, c.type_inv.s i)))
    (omega (arith, length-drop a.at s, c.if-s-at.false))
