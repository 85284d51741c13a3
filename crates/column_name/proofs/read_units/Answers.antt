-- `column_name::read_units` meets its contract: the name's bytes where all of them are there, refusal 1 where one is not. Assumes nothing.
use mathlib.Core.Path.{refl}
use Prim.Native.Nat.{◌+◌, ◌*◌, ◌≤◌}
use native.Mathlib.Omega.{arith}
use lib.ListN.{length}
use Rattle.column_type.proofs.ReadLaws.{bytes_there, bytes-missing}
use Rattle.column_name.proofs.read_units.Goals as goal

pub returns-then-s-start : goal.returns-then-s-start
returns-then-s-start c =
    let a = c.args in
    (bytes-missing a.s.now a.cursor.at (2 * a.n) (omega arith), tt)

pub returns : goal.returns
returns c =
    let a = c.args in
    let l : a.cursor.at + 2 * a.n ≤ length a.s.now = omega arith in
    (bytes_there a.s.now a.cursor.at (2 * a.n) l, (refl, refl, l))
