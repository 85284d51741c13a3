-- `prelogin::write_prelogin` meets its contract: 39 bytes with FEDAUTHREQUIRED, 33 without, or refusal 4 and the room as it was. Assumes nothing.
use mathlib.Core.Path.{◌∙◌}
use native.Mathlib.Omega.{arith}
use Rattle.lists.proofs.Front.{sets-front}
use Rattle.format.specs.Prelogin.{write_prelogin}
use Rattle.wire.proofs.Writing.{no_room, has_room}
use Rattle.prelogin.proofs.Stored.{bytes, shorter_stored, shorter_length, longer_stored, longer_length}
use Rattle.prelogin.proofs.write_prelogin.Goals as goal

pub returns-then-out-lt-FED_SIZE : goal.returns-then-out-lt-FED_SIZE
unfolding write_prelogin
returns-then-out-lt-FED_SIZE c =
    let a = c.args in
    let l = longer_length a.out.now a.p c.if-p.true in
    let all = no_room (bytes a.p) a.out.now (omega (arith, l)) in record {
      answer = all.0;
      room = all.1;
    }

pub returns-then-p : goal.returns-then-p
unfolding write_prelogin
returns-then-p c =
    let a = c.args in
    let t = c.if-p.true in
    let l = longer_length a.out.now a.p t in
    let h = has_room (bytes a.p) a.out.now 39 l (omega (arith, l)) in
    let e =
    rw
    (c.put_data.ensures, c.put_byte.ensures, c.put_entry.ensures, c.put_table.ensures)
    at c.put_byte-then-p.ensures in
    record {
      answer = h.0;
      room = e ∙ (longer_stored a.out.now a.p t ∙ (sets-front a.out.now (bytes a.p) (omega (arith, l)) ∙ h.1));
    }

pub returns-then-out-lt-SIZE : goal.returns-then-out-lt-SIZE
unfolding write_prelogin
returns-then-out-lt-SIZE c =
    let a = c.args in
    let l = shorter_length a.out.now a.p c.if-p.false in
    let all = no_room (bytes a.p) a.out.now (omega (arith, l)) in record {
      answer = all.0;
      room = all.1;
    }

pub returns : goal.returns
unfolding write_prelogin
returns c =
    let a = c.args in
    let t = c.if-p.false in
    let l = shorter_length a.out.now a.p t in
    let h = has_room (bytes a.p) a.out.now 33 l (omega (arith, l)) in
    let e = rw (c.put_byte-2.ensures, c.put_table-2.ensures) at c.put_data-2.ensures in
    record {
      answer = h.0;
      room = e ∙ (shorter_stored a.out.now a.p t ∙ (sets-front a.out.now (bytes a.p) (omega (arith, l)) ∙ h.1));
    }
