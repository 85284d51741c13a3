-- `wire::Cursor::high` meets its contract: the number where all its bytes are there, refusal 1 where one is not. Assumes nothing.
use Prim.Native.Nat.{◌+◌, ◌≤◌, ◌<◌}
use mathlib.Core.Path.{◌≡◌, sym, ◌∙◌}
use native.Mathlib.Omega.{arith}
use lib.ListN.{length, take, drop}
use borrow.Author.Tests.{leb-true, leb-false}
use Rattle.format.specs.Answer.{took}
use Rattle.format.specs.Number.{high_nat}
use Rattle.wire.specs.Told.{width_of}
use Rattle.wire.proofs.Reading.{high_there, high-missing, width-le}
use Rattle.wire.proofs.Cursor.high.Goals.{Then-inside}
use Rattle.wire.proofs.Cursor.high.Goals as goal

-- the test said that the bytes are there
there : (c : Then-inside) →
    c.args.self.at + c.bytes-n.result ≤ length c.args.s.now
there c = leb-true _ _ (sym c.inside.ensures ∙ c.if-inside.true)

pub high_at-requires : goal.high_at-requires
high_at-requires c = (omega (arith, c.bytes-n.ensures, width-le c.args.w), there c)

pub overflow_add-result : goal.overflow_add-result
overflow_add-result c = omega (arith, there (goal.at.overflow_add-result c).Then-inside)

pub returns-then-inside : goal.returns-then-inside
returns-then-inside c =
    let a = c.args in
    let b = c.bytes-n.result in
    let e : b ≡ width_of a.w = c.bytes-n.ensures in
    let f :
    took c.high_at.result (a.self.at + b)
    ≡ took (high_nat (take (width_of a.w) (drop a.self.at a.s.now))) (a.self.at + width_of a.w) =
    rw (c.high_at.ensures.value, e) in
    let l : a.self.at + width_of a.w ≤ length a.s.now = omega (arith, e, there (goal.at.returns-then-inside c).Then-inside) in
    (f ∙ high_there a.s.now a.self.at (width_of a.w) l, rw e at c.high_at.ensures.small)

pub returns : goal.returns
returns c =
    let a = c.args in
    let h : length a.s.now < a.self.at + c.bytes-n.result = leb-false _ _ (sym c.inside.ensures ∙ c.if-inside.false) in
    (high-missing a.s.now a.self.at (width_of a.w) (omega (arith, c.bytes-n.ensures)), tt)
