-- `header::write_header` meets its contract: the stores are one run of stores, the header's bytes at the front. Assumes nothing.
use mathlib.Core.Path.{◌≡◌, refl, ◌∙◌}
use native.Mathlib.Omega.{arith}
use lib.ListN.{length, length-set}
use Rattle.lists.proofs.Front.{sets-front}
use Rattle.format.specs.Header.{header_bytes, write_header}
use Rattle.wire.proofs.Writing.{no_room, has_room}
use Rattle.header.specs.Told.{header_fields}
use Rattle.header.proofs.write_header.Goals.{After-put_high-2}
use Rattle.header.proofs.write_header.Goals as goal

pub returns-then-out-lt8 : goal.returns-then-out-lt8
unfolding write_header
returns-then-out-lt8 c =
    let a = c.args in
    let all = no_room (header_bytes (header_fields a.h)) a.out.now c.if-out-lt8.true in record {
      answer = all.0;
      room = all.1;
    }

pub bounds-out-1 : goal.bounds-out-1
bounds-out-1 c = simp length-set (omega arith)

pub put_high-requires : goal.put_high-requires
put_high-requires c = simp length-set (omega arith)

pub put_high-requires-2 : goal.put_high-requires-2
put_high-requires-2 c = omega (arith, simp length-set at c.put_high.auto.out)

-- the callees keep the length
kept : (c : After-put_high-2) →
    length c.put_high-2.new.out ≡ length c.args.out.now
kept c =
    c.put_high-2.auto.out ∙ (c.put_high.auto.out ∙ simp length-set)

pub bounds-out-6 : goal.bounds-out-6
bounds-out-6 c = omega (arith, kept (goal.at.bounds-out-6 c).After-put_high-2)

pub bounds-out-7 : goal.bounds-out-7
bounds-out-7 c = simp length-set (omega (arith, kept (goal.at.bounds-out-7 c).After-put_high-2))

pub shape_of-out : goal.shape_of-out
shape_of-out c = simp length-set (kept (goal.at.shape_of-out c).After-put_high-2)

pub returns : goal.returns
unfolding write_header
returns c =
    let a = c.args in
    let b = header_bytes (header_fields a.h) in
    let l = c.if-out-lt8.false in
    let h = has_room b a.out.now 8 refl l in
    record {
      answer = h.0;
      room = rw
          (c.put_high-2.ensures, c.put_high.ensures, c.from-2.ensures, c.from.ensures)
          (sets-front a.out.now b l ∙ h.1);
    }
