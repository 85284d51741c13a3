-- `column_name::read_xml` meets its contract: the marker, and what follows it. Assumes nothing.
use mathlib.Core.Path.{◌≡◌, sym, ◌∙◌}
use Prim.Native.Nat.{◌+◌}
use native.Mathlib.Omega.{arith}
use Rattle.format.specs.Number.{read_byte}
use Rattle.format.specs.Descriptor.{read_schema}
use Rattle.format.proofs.Place.{stays_byte, next_inside, at_then, at_then_stops}
use Rattle.wire.specs.Told.{refusal_told}
use Rattle.wire.proofs.Exit.{exit_is}
use Rattle.column_type.proofs.ReadLaws.{byte_next}
use Rattle.column_name.proofs.read_xml.Goals as goal

pub read_schema-requires : goal.read_schema-requires
read_schema-requires c =
    let a = c.args in
    (next_inside read_byte a.s.now a.cursor.at stays_byte c.in_ok-marker.marker c.in_ok-marker.next.at (sym c.in_ok-marker.ensures)).1

pub returns-in_err-marker : goal.returns-in_err-marker
returns-in_err-marker c =
    let a = c.args in
    rw (exit_is _ _ c.from_residual.ensures.1) record {
      told = sym (at_then_stops read_byte read_schema a.s.now a.cursor.at (refusal_told c.in_err-marker.field-0.0) (sym c.in_err-marker.ensures));
      names = tt;
    }

pub returns : goal.returns
returns c =
    let a = c.args in
    let k = c.in_ok-marker in
    let e = sym k.ensures in
    let p : a.cursor.at + 2 ≡ k.next.at + 1 = omega (arith, byte_next a.s.now a.cursor.at k.marker k.next.at e) in
    record {
      told = c.read_schema.ensures.0 ∙ sym (at_then read_byte read_schema a.s.now a.cursor.at stays_byte k.marker k.next.at e);
      names = rw p c.read_schema.ensures.1;
    }
