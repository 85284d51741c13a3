-- `guid::write_guid` meets its contract: sixteen bytes, or refusal 4 and the room as it was. Assumes nothing.
use mathlib.Core.Path.{◌∙◌}
use native.Mathlib.Omega.{arith}
use Rattle.lists.proofs.Front.{sets-front}
use Rattle.wire.specs.Told.{guid_wire, write_guid}
use Rattle.guid.proofs.Laws.{length_wire}
use Rattle.wire.proofs.Writing.{no_room, has_room}
use Rattle.guid.proofs.write_guid.Goals as goal

pub returns-then-out-lt16 : goal.returns-then-out-lt16
unfolding write_guid
returns-then-out-lt16 c =
    let a = c.args in
    let all = no_room (guid_wire a.g) a.out.now (omega (arith, length_wire a.g)) in record {
      answer = all.0;
      room = all.1;
    }

pub returns : goal.returns
unfolding write_guid
returns c =
    let a = c.args in
    let h = has_room (guid_wire a.g) a.out.now 16 (length_wire a.g) (omega (arith, length_wire a.g)) in
    record {
      answer = h.0;
      room = c.put_guid.ensures ∙ (sets-front a.out.now (guid_wire a.g) (omega (arith, length_wire a.g)) ∙ h.1);
    }
