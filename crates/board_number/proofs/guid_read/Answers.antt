-- `board_number::guid_read` meets its contract: the two numbers that the layer below reads, as their sixteen bytes. Assumes nothing.
use mathlib.Core.Path.{refl, ap, ◌∙◌}
use native.Mathlib.Omega.{arith}
use Rattle.format.specs.Answer.{map_read}
use Rattle.wire.specs.Told.{guid_bytes}
use Rattle.format.proofs.Number.{Bytes}
use Rattle.board_answer.proofs.Laws.{reads_took, reads_stops}
use Rattle.board_number.proofs.Laws.{guid_is}
use Rattle.board_number.proofs.guid_read.Goals.{After-guid}
use Rattle.board_number.proofs.guid_read.Goals as goal

bytes : (c : After-guid) → Bytes c.args.bytes.now
bytes c i = omega (arith, c.type_inv.bytes i)

pub returns-in-Ok : goal.returns-in-Ok
returns-in-Ok c =
    let a = c.args in
    let all = reads_took _ _ _ a.text.now _ _ c.at.ensures c.put_text.ensures
    (ap (map_read guid_bytes) c.in-Ok.ensures ∙ guid_is a.bytes.now a.at (bytes (goal.at.returns-in-Ok c).After-guid)) in record {
      answer = all.0;
      room = all.1;
    }

pub returns-in-Err : goal.returns-in-Err
returns-in-Err c =
    let a = c.args in
    let all = reads_stops _ _ _ a.text.now _ c.refused.ensures refl
    (ap (map_read guid_bytes) c.in-Err.ensures ∙ guid_is a.bytes.now a.at (bytes (goal.at.returns-in-Err c).After-guid)) in record {
      answer = all.0;
      room = all.1;
    }
