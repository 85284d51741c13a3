-- `board_number::write_text` meets its contract: the two numbers of the sixteen bytes, which the layer below writes. Assumes nothing.
use mathlib.Core.Path.{ap}
use native.Mathlib.Omega.{arith}
use Rattle.format.specs.Answer.{gives}
use Rattle.format.proofs.Number.{Bytes}
use Rattle.wire.specs.Told.{write_guid}
use Rattle.board_answer.proofs.Laws.{writes_told}
use Rattle.board_number.proofs.Laws.{wire_is}
use Rattle.board_number.proofs.write_text.Goals.{After-high_at-high}
use Rattle.board_number.proofs.write_text.Goals as goal

bytes : (c : After-high_at-high) → Bytes c.args.text.now
bytes c i = omega (arith, c.type_inv.text i)

pub returns : goal.returns
unfolding write_guid
returns c =
    let a = c.args in
    let is = wire_is a.text.now _ c.requires (bytes (goal.at.returns c).After-high_at-high) c.high_at-high.ensures.value c.high_at-low.ensures.value in
    let all = writes_told _ _ _ _ _ a.out.now c.answer.ensures (ap gives is) (c.write_guid.ensures.answer, c.write_guid.ensures.room) in record {
      answer = all.0;
      room = all.1;
    }
