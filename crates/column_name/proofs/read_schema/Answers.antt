-- `column_name::read_schema` meets its contract: the names behind the marker 1, no schema behind any other. Assumes nothing.
use lib.Dec.{eqb}
use borrow.Author.Tests.{eq-eqb, ne_eqb}
use Rattle.format.specs.Answer.{then_read}
use mathlib.Core.Path.{sym, ◌∙◌}
use Rattle.format.specs.Descriptor.{xml, plain, read_name, read_second, schema_marker}
use Rattle.format.proofs.Place.{at_taken, at_left, at_then, at_then_stops}
use Rattle.wire.specs.Told.{refusal_told}
use Rattle.wire.proofs.Exit.{exit_is}
use Rattle.column_type.specs.Told.{name_bytes}
use Rattle.column_type.proofs.ReadLaws.{stays_name}
use Rattle.column_name.proofs.read_schema.Goals as goal

pub read_second-requires : goal.read_second-requires
read_second-requires c =
    let f = c.in_ok-first.ensures.1 in
    (f.1, f.2)

pub returns-in_err-first : goal.returns-in_err-first
returns-in_err-first c =
    let a = c.args in
    let e = sym c.in_err-first.ensures.0 in
    let h = eq-eqb a.marker schema_marker c.if-marker-eq1.true in
    rw (exit_is _ _ c.from_residual.ensures.1) (
      sym (at_taken (eqb a.marker schema_marker) (then_read (read_name 1) read_second) (plain xml 0) a.s.now a.cursor.at h
          ∙ at_then_stops (read_name 1) read_second a.s.now a.cursor.at (refusal_told c.in_err-first.field-0.0) e),
      tt,
    )

pub returns-in_ok-first : goal.returns-in_ok-first
returns-in_ok-first c =
    let a = c.args in
    let t = c.in_ok-first.first in
    let next = c.in_ok-first.next in
    let e = sym c.in_ok-first.ensures.0 in
    let h = eq-eqb a.marker schema_marker c.if-marker-eq1.true in (
      c.read_second.ensures.0
          ∙ sym (at_taken (eqb a.marker schema_marker) (then_read (read_name 1) read_second) (plain xml 0) a.s.now a.cursor.at h
          ∙ at_then (read_name 1) read_second a.s.now a.cursor.at (stays_name 1) (name_bytes a.s.now t) next.at e),
      rw c.in_ok-first.ensures.1.0 at c.read_second.ensures.1,
    )

pub returns-else-marker-eq1 : goal.returns-else-marker-eq1
returns-else-marker-eq1 c =
    let a = c.args in
    let h = ne_eqb a.marker schema_marker c.if-marker-eq1.false in
    let e =
    at_left (eqb a.marker schema_marker) (then_read (read_name 1) read_second) (plain xml 0) a.s.now a.cursor.at h
    c.requires in
    (rw c.plain.ensures (sym e), rw c.plain.ensures tt)
