-- `board_packet::header_write` meets its contract: type and status, then the room, then the bytes. Assumes nothing.
use mathlib.Core.Path.{refl, sym, ◌∙◌}
use Rattle.lists.proofs.Front.{sets-front}
use Rattle.format.specs.Answer.{unknown}
use Rattle.format.specs.Header.{header_bytes}
use Rattle.wire.proofs.Writing.{no_room, has_room}
use Rattle.board_answer.proofs.Laws.{writes_told, writes_refused}
use Rattle.board_packet.specs.Plain.{header_made}
use Rattle.board_packet.proofs.Laws.{is_known, is_unknown}
use Rattle.board_packet.proofs.header_write.Goals as goal

pub returns-then-out-lt8 : goal.returns-then-out-lt8
returns-then-out-lt8 c =
    let a = c.args in
    let k = is_known a.ty a.status a.length a.spid a.id a.window (sym c.is_known.ensures ∙ c.if-not-is_known.false) in
    let all = writes_told _ _ _ _ _ a.out.now c.refused.ensures (sym k) (no_room _ a.out.now c.if-out-lt8.true) in record {
      answer = all.0;
      room = all.1;
    }

pub returns : goal.returns
returns c =
    let a = c.args in
    let l = c.if-out-lt8.false in
    let k = is_known a.ty a.status a.length a.spid a.id a.window (sym c.is_known.ensures ∙ c.if-not-is_known.false) in
    let b = header_bytes (header_made a.ty a.status a.length a.spid a.id a.window) in
    let h = has_room b a.out.now 8 refl l in
    let all = writes_told _ _ _ _ _ a.out.now c.at.ensures (sym k)
    (h.0, c.put_header.ensures ∙ (sets-front a.out.now b l ∙ h.1)) in record {
      answer = all.0;
      room = all.1;
    }

pub returns-then-not-is_known : goal.returns-then-not-is_known
returns-then-not-is_known c =
    let a = c.args in
    let all = writes_refused _ unknown _ a.out.now c.unknown.ensures
    (is_unknown a.ty a.status a.length a.spid a.id a.window (sym c.is_known.ensures ∙ c.if-not-is_known.true)) in record {
      answer = all.0;
      room = all.1;
    }
