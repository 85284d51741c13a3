-- `text_put::inner::form::write` meets its contract. The invariant: the bytes written stand at the front, and what is still to write is what the text comes to
-- from here on.
-- Assumes nothing.
use mathlib.Core.Path.{◌≡◌, refl, ◌∙◌}
use Prim.Native.Nat.{◌≤◌}
use native.Mathlib.Omega.{arith}
use lib.ListN.{length}
use borrow.Author.Rules.{rules}
use Rattle.format.specs.Answer.{gives}
use Rattle.format.proofs.Number.{Bytes}
use Rattle.lists.proofs.Front.{front_none}
use Rattle.wire.proofs.Writing.{given, fits_given, after-given}
use Rattle.text_char.proofs.Turns.{Stands, stands, last, write_room, write_more, write_stop, write_end}
use Rattle.text_put.specs.Turned.{turned}
use Rattle.text_put.proofs.Turned.{turned_gives}
use Rattle.text_put.proofs.inner.form.write.Goals.{At-loop-at, In-Ok, Start}
use Rattle.text_put.proofs.inner.form.write.Goals as goal

-- the bytes to write, and the room for them
fits : (g : _) (c : Start g) → let t = turned g.F.TextForm.UNIT g.F.TextForm.char g.T.TextForm.spell c.args.s.now in
    (t ≡ gives (given t)) × (length (given t) ≤ length c.args.out.now)
fits g c = fits_given _ _ c.requires

pub loop-at-init : goal.loop-at-init
loop-at-init g c = record {
  inside = search rules;
  within = search rules;
  same = refl;
  holds = front_none _ _;
  left = turned_gives _ _ _ _ _ (fits g (goal.at.loop-at-init g c).Start).0;
}

-- the character that was read
read : (g : _) (c : In-Ok g) → Stands g.F.TextForm.char c.args.s.now c.loop-at.at c.in-Ok.c c.in-Ok.k
read g c = let b : Bytes c.args.s.now = λ i. omega (arith, c.type_inv.s i) in stands g.met.F.TextForm.spelled b c.loop-at-test.true c.in-Ok.ensures

pub put-o-requires : goal.put-o-requires
put-o-requires g c =
    let b : Bytes c.args.s.now = λ i. omega (arith, c.type_inv.s i) in
    let r = read g (goal.at.put-o-requires g c).In-Ok in
    (last g.met.F.TextForm.spelled b r, write_room c.loop-at.invariant r (fits g (goal.at.put-o-requires g c).Start).1)

pub loop-at-preserved : goal.loop-at-preserved
loop-at-preserved g c = write_more c.loop-at.invariant (read g (goal.at.loop-at-preserved g c).In-Ok) (fits g (goal.at.loop-at-preserved g c).Start).1
    c.put-o.ensures.size c.put-o.ensures.room

pub overflow_add-at : goal.overflow_add-at
overflow_add-at g c = omega (arith, read g (goal.at.overflow_add-at g c).In-Ok, c.well_formed)

pub loop-at-smaller : goal.loop-at-smaller
loop-at-smaller g c = omega (arith, read g (goal.at.loop-at-smaller g c).In-Ok)

pub returns-in_default : goal.returns-in_default
returns-in_default g c = write_stop c.loop-at.invariant c.loop-at-test.true c.in_default.ensures

pub returns : goal.returns
returns g c = write_end c.loop-at.invariant c.loop-at-test.false ∙ after-given _ c.args.out.now (fits g (goal.at.returns g c).Start).0
