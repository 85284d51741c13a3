-- A normal form that was answered fits the room.
use Rattle.std.proofs.Common.{arith, sym, []}
use lib.Seq.{length-take-le}
use Rattle.normal_step.proofs.Fits.{count_fits}
use Rattle.show_capture.proofs.show_normal.Goals as goal

pub slice_bounds-say_normal-end : goal.slice_bounds-say_normal-end
slice_bounds-say_normal-end g c =
    omega (arith, count_fits _ _ _ _ (c.in-Ok.ensures.answer []), c.normal_row-made.auto.out)

pub slice_bounds-say_normal-end-in-Ok : goal.slice_bounds-say_normal-end-in-Ok
slice_bounds-say_normal-end-in-Ok g c =
    let h = count_fits _ _ _ _ (c.in-Ok.ensures.answer []) in
    sym (length-take-le c.in-Ok.n _ (omega (arith, h, c.normal_row-made.auto.out)))
