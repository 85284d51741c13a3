-- `column_name::read_name` meets its contract: the count, and the bytes behind it. Assumes nothing.
use mathlib.Core.Path.{sym, ◌∙◌}
use Rattle.format.specs.Number.{read_low}
use Rattle.format.specs.Descriptor.{read_units}
use Rattle.format.proofs.Place.{stays_low, next_inside, at_then, at_then_stops}
use Rattle.wire.specs.Told.{width_of, refusal_told}
use Rattle.wire.proofs.Exit.{exit_is}
use Rattle.column_type.proofs.ReadLaws.{low_next}
use Rattle.column_name.proofs.read_name.Goals as goal

pub read_units-requires : goal.read_units-requires
read_units-requires c =
    let a = c.args in
    (next_inside (read_low (width_of a.w)) a.s.now a.cursor.at (stays_low (width_of a.w)) c.in_ok-n.n c.in_ok-n.next.at
    (sym c.in_ok-n.ensures.0)).1

pub returns-in_err-n : goal.returns-in_err-n
returns-in_err-n c =
    let a = c.args in
    let e = sym c.in_err-n.ensures.0 in
    rw (exit_is _ _ c.from_residual.ensures.1)
    (sym (at_then_stops (read_low (width_of a.w)) read_units a.s.now a.cursor.at (refusal_told c.in_err-n.field-0.0) e), tt)

pub returns : goal.returns
returns c =
    let a = c.args in
    let e = sym c.in_ok-n.ensures.0 in
    let m = low_next a.s.now a.cursor.at (width_of a.w) c.in_ok-n.n c.in_ok-n.next.at e in (
      c.read_units.ensures.0 ∙
          sym (at_then (read_low (width_of a.w)) read_units a.s.now a.cursor.at (stays_low (width_of a.w)) c.in_ok-n.n c.in_ok-n.next.at e),
      rw m at
          c.read_units.ensures.1,
    )
