-- Bytes that were written fit the room.
use Rattle.wire.proofs.Writing.{count_fits}
use Rattle.example_limits.proofs.write_limit.Goals as goal

pub returns-in-Ok : goal.returns-in-Ok
returns-in-Ok c = count_fits _ _ _ c.in-Ok.ensures.answer
