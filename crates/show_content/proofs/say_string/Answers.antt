-- Text that was written fits the room.
use Rattle.std.proofs.Common.{arith, sym}
use lib.Seq.{length-take-le}
use Rattle.wire.proofs.Writing.{count_fits}
use Rattle.show_content.proofs.say_string.Goals as goal

pub slice_bounds-say_text-end : goal.slice_bounds-say_text-end
slice_bounds-say_text-end g c = omega (arith, count_fits _ _ _ c.in-Ok.ensures.answer, c.to_utf8-made.auto.out)

pub slice_bounds-say_text-end-in-Ok : goal.slice_bounds-say_text-end-in-Ok
slice_bounds-say_text-end-in-Ok g c =
    sym (length-take-le c.in-Ok.n _ (omega (arith, count_fits _ _ _ c.in-Ok.ensures.answer, c.to_utf8-made.auto.out)))
