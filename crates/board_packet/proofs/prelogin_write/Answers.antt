-- `board_packet::prelogin_write` meets its contract: numbers within their bounds make a message, which the layer below writes. Assumes nothing.
use mathlib.Core.Path.{◌≡◌, ap}
use Rattle.format.specs.Answer.{Answer, and_then}
use Rattle.format.specs.Prelogin.{Prelogin, write_prelogin}
use Rattle.board_answer.proofs.Laws.{writes_told, writes_refused}
use Rattle.board_packet.proofs.prelogin_write.Goals as goal

-- what is written of what was told
written : (x y : Answer Prelogin) → x ≡ y → and_then x write_prelogin ≡ and_then y write_prelogin
written x y e = ap (λ (p : Answer Prelogin). and_then p write_prelogin) e

pub returns-in-Ok : goal.returns-in-Ok
returns-in-Ok c =
    let a = c.args in
    let all = writes_told _ _ _ _ _ a.out.now c.answer.ensures (written _ _ c.in-Ok.ensures)
    (c.write_prelogin.ensures.answer, c.write_prelogin.ensures.room) in record {
      answer = all.0;
      room = all.1;
    }

pub returns-in-Err : goal.returns-in-Err
returns-in-Err c =
    let a = c.args in
    let all = writes_refused _ _ _ a.out.now c.refused.ensures (written _ _ c.in-Err.ensures) in record {
      answer = all.0;
      room = all.1;
    }
