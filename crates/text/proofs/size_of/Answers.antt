-- `text::size_of` meets its contract. The invariant: what the text comes to is what it comes to from here on, behind what was counted. Assumes nothing.
use mathlib.Core.Path.{sym, ap, ◌∙◌}
use Prim.Native.Nat.{◌*◌, ◌≤◌}
use native.Mathlib.Omega.{arith}
use borrow.Author.Rules.{rules}
use Rattle.format.specs.Answer.{wrote}
use Rattle.format.proofs.Number.{Bytes}
use Rattle.wire.proofs.Exit.{exit_is}
use Rattle.text_char.proofs.Turns.{Stands, stands, long, size-start, size_more, size_stop, size-end}
use Rattle.text_put.proofs.Turned.{turned_whole, turned_odd}
use Rattle.text.proofs.size_of.Goals.{After-size-n, In_ok-c}
use Rattle.text.proofs.size_of.Goals as goal

pub returns-then-s-UNIT-ne0 : goal.returns-then-s-UNIT-ne0
unfolding wrote
returns-then-s-UNIT-ne0 g c =
    let h = rw c.UNIT.ensures at c.if-s-UNIT-ne0.true in
    sym (ap wrote (turned_odd _ _ _ c.args.s.now h))

pub loop-at-init : goal.loop-at-init
loop-at-init g c = (size-start g.F.TextForm.char g.T.TextForm.spell c.args.s.now, search rules)

-- the character that was read, and how long it is in the other form
read : (g : _) (c : In_ok-c g) → Stands g.F.TextForm.char c.args.s.now c.loop-at.at c.in_ok-c.c c.in_ok-c.k
read g c = let b : Bytes c.args.s.now = λ i. omega (arith, c.type_inv.s i) in stands g.met.F.TextForm.spelled b c.loop-at-test.true c.in_ok-c.ensures

short : (g : _) (c : After-size-n g) → c.size-n.result ≤ 2 * c.in_ok-c.k
short g c =
    let b : Bytes c.args.s.now = λ i. omega (arith, c.type_inv.s i) in
    let r = stands g.met.F.TextForm.spelled b c.loop-at-test.true c.in_ok-c.ensures in
    rw c.size-n.ensures (long g.met.F.TextForm.spelled b g.T.TextForm.spell (g.met.F.TextForm.least _) (g.met.T.TextForm.most _) r)

pub overflow_add-n : goal.overflow_add-n
overflow_add-n g c = omega (arith, read g (goal.at.overflow_add-n g c).In_ok-c, short g c, c.well_formed)

pub overflow_add-at : goal.overflow_add-at
overflow_add-at g c = omega (arith, read g (goal.at.overflow_add-at g c).In_ok-c, c.well_formed)

pub loop-at-smaller : goal.loop-at-smaller
loop-at-smaller g c = omega (arith, read g (goal.at.loop-at-smaller g c).In_ok-c)

pub loop-at-preserved : goal.loop-at-preserved
loop-at-preserved g c = (size_more c.loop-at.invariant.0 c.size-n.ensures (read g (goal.at.loop-at-preserved g c).In_ok-c), omega (arith, short g c))

pub returns-in_err-c : goal.returns-in_err-c
returns-in_err-c g c =
    let h = rw c.UNIT.ensures at c.if-s-UNIT-ne0.false in
    rw (exit_is _ _ c.from_residual.ensures.1)
    (size_stop c.loop-at.invariant.0 c.loop-at-test.true c.in_err-c.ensures ∙ sym (ap wrote (turned_whole _ _ _ c.args.s.now h)))

pub returns : goal.returns
returns g c =
    let h = rw c.UNIT.ensures at c.if-s-UNIT-ne0.false in
    size-end c.loop-at.invariant.0 c.loop-at-test.false ∙ sym (ap wrote (turned_whole _ _ _ c.args.s.now h))
