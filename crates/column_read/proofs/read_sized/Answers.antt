-- `column_read::read_sized` meets its contract: the length, and the reader behind it. Assumes nothing.
use mathlib.Core.Path.{sym, ◌∙◌}
use Rattle.format.specs.Number.{read_low}
use Rattle.format.proofs.Place.{stays_low, next_inside, at_then, at_then_stops}
use Rattle.wire.specs.Told.{refusal_told, width_of}
use Rattle.wire.proofs.Exit.{exit_is}
use Rattle.column_type.specs.Told.{type_told}
use Rattle.column_read.specs.Told.{read_behind}
use Rattle.column_read.proofs.read_sized.Goals as goal

pub read_behind-requires : goal.read_behind-requires
read_behind-requires c =
    let a = c.args in
    let k = c.in_ok-n in
    (next_inside (read_low (width_of a.w)) a.s.now a.cursor.at (stays_low (width_of a.w)) k.n k.next.at (sym k.ensures.0)).1

pub returns-in_err-n : goal.returns-in_err-n
returns-in_err-n c =
    let a = c.args in
    let e = sym c.in_err-n.ensures.0 in
    rw (exit_is _ _ c.from_residual.ensures.1)
    (sym (at_then_stops (read_low (width_of a.w)) (read_behind (type_told a.t)) a.s.now a.cursor.at (refusal_told c.in_err-n.field-0.0) e), λ p. tt)

pub returns : goal.returns
returns c =
    let a = c.args in
    let w = width_of a.w in
    let k = c.in_ok-n in
    let then = at_then (read_low w) (read_behind (type_told a.t)) a.s.now a.cursor.at (stays_low w) k.n k.next.at (sym k.ensures.0) in
    (c.read_behind.ensures.0 ∙ sym then, c.read_behind.ensures.1)
