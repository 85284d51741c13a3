-- `wire::Cursor::guid` meets its contract: the GUID where all sixteen bytes are there, refusal 1 where one is not. Assumes nothing.
use Prim.Native.Nat.{◌+◌, ◌≤◌}
use mathlib.Core.Path.{sym, ◌∙◌}
use native.Mathlib.Omega.{arith}
use lib.ListN.{length}
use borrow.Author.Tests.{leb-true, leb-false}
use Rattle.wire.proofs.Reading.{guid_there, guid-missing}
use Rattle.wire.proofs.Cursor.guid.Goals.{Then-inside}
use Rattle.wire.proofs.Cursor.guid.Goals as goal

-- the test said that the bytes are there
there : (c : Then-inside) → c.args.self.at + 16 ≤ length c.args.s.now
there c = leb-true _ _ (sym c.inside.ensures ∙ c.if-inside.true)

pub guid_at-requires : goal.guid_at-requires
guid_at-requires c = there c

pub overflow_add-result : goal.overflow_add-result
overflow_add-result c = omega (arith, there (goal.at.overflow_add-result c).Then-inside)

pub returns-then-inside : goal.returns-then-inside
returns-then-inside c =
    let a = c.args in
    rw c.guid_at.ensures (guid_there a.s.now a.self.at (there (goal.at.returns-then-inside c).Then-inside))

pub returns : goal.returns
returns c =
    let a = c.args in
    guid-missing a.s.now a.self.at (leb-false _ _ (sym c.inside.ensures ∙ c.if-inside.false))
