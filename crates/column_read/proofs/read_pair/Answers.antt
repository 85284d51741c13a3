-- `column_read::read_pair` meets its contract: the number, and the byte at the place behind it. Assumes nothing.
use mathlib.Core.Path.{sym, ◌∙◌}
use Rattle.format.specs.Number.{read_byte, read_low}
use Rattle.format.proofs.Place.{stays_low, at_then, at_then_stops, at_map-took, at_map-stops}
use Rattle.wire.specs.Told.{refusal_told, width_of}
use Rattle.wire.proofs.Exit.{exit_is}
use Rattle.column_read.specs.Told.{read_last}
use Rattle.column_read.proofs.read_pair.Goals as goal

pub returns-in_err-n : goal.returns-in_err-n
returns-in_err-n c =
    let a = c.args in
    let number = sym c.in_err-n.ensures.0 in
    rw (exit_is _ _ c.from_residual.ensures.1)
    (λ f. sym (at_then_stops (read_low (width_of a.w)) (read_last f) a.s.now a.cursor.at (refusal_told c.in_err-n.field-0.0) number), tt)

pub returns-in_err-b : goal.returns-in_err-b
returns-in_err-b c =
    let a = c.args in
    let k = c.in_ok-n in
    rw (exit_is _ _ c.from_residual-in_err-b.ensures.1) (
      λ f. sym
          (at_then (read_low (width_of a.w)) (read_last f) a.s.now a.cursor.at (stays_low (width_of a.w)) k.n k.behind.at (sym k.ensures.0)
          ∙ at_map-stops (f k.n) read_byte a.s.now k.behind.at (refusal_told c.in_err-b.field-0.0) (sym c.in_err-b.ensures)),
      tt,
    )

pub returns : goal.returns
returns c =
    let a = c.args in
    let k = c.in_ok-n in (
      λ f. sym
          (at_then (read_low (width_of a.w)) (read_last f) a.s.now a.cursor.at (stays_low (width_of a.w)) k.n k.behind.at (sym k.ensures.0)
          ∙ at_map-took (f k.n) read_byte a.s.now k.behind.at c.in_ok-b.b c.in_ok-b.next.at (sym c.in_ok-b.ensures)),
      k.ensures.1,
    )
