-- `wire::inner::guid_at` meets its contract: three numbers low byte first and eight bytes high byte first are the GUID's two numbers. Assumes nothing.
use Prim.Native.Nat.{◌≤◌}
use native.Mathlib.Omega.{arith}
use lib.ListN.{length, drop, length-drop}
use lib.Seq.{drop-drop}
use Rattle.wire.proofs.GuidLaws.{guid_read}
use Rattle.wire.proofs.inner.guid_at.Goals as goal

pub returns : goal.returns
returns c =
    let a = c.args in
    let r = drop a.at a.s.now in
    let l : 8 ≤ length r = omega (arith, length-drop a.at a.s.now, c.requires) in
    let two = c.low_at-second.ensures.value in
    let three = c.low_at-third.ensures.value in
    let high = c.high_at-low.ensures.value in
    rw (
      c.low_at-first.ensures.value,
      two,
      three,
      high,
      ← drop-drop 4 a.at a.s.now,
      ← drop-drop 6 a.at a.s.now,
      ← drop-drop 8 a.at
          a.s.now,
    )
    (guid_read r l)
