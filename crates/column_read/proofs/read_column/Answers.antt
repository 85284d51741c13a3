-- `column_read::read_column` meets its contract: the type byte, and what follows it. Assumes nothing.
use mathlib.Core.Path.{◌≡◌, sym, ◌∙◌}
use Prim.Native.Nat.{◌+◌}
use native.Mathlib.Omega.{arith}
use Rattle.format.specs.Number.{read_byte}
use Rattle.format.specs.Descriptor.{read_type, read_column}
use Rattle.format.proofs.Place.{stays_byte, next_inside, at_then, at_then_stops}
use Rattle.wire.specs.Told.{refusal_told}
use Rattle.wire.proofs.Exit.{exit_is}
use Rattle.column_type.proofs.ReadLaws.{byte_next}
use Rattle.column_read.proofs.read_column.Goals as goal

pub read_type-requires : goal.read_type-requires
read_type-requires c =
    let a = c.args in
    (next_inside read_byte a.s.now a.cursor.at stays_byte c.in_ok-b.b c.in_ok-b.next.at (sym c.in_ok-b.ensures)).1

pub returns-in_err-b : goal.returns-in_err-b
unfolding read_column
returns-in_err-b c =
    let a = c.args in
    rw (exit_is _ _ c.from_residual.ensures.1) record {
      told = sym (at_then_stops read_byte read_type a.s.now a.cursor.at (refusal_told c.in_err-b.field-0.0) (sym c.in_err-b.ensures));
      names = tt;
    }

pub returns : goal.returns
unfolding read_column
returns c =
    let a = c.args in
    let k = c.in_ok-b in
    let e = sym k.ensures in
    let p : a.cursor.at + 3 ≡ k.next.at + 2 = omega (arith, byte_next a.s.now a.cursor.at k.b k.next.at e) in
    record {
      told = c.read_type.ensures.0 ∙ sym (at_then read_byte read_type a.s.now a.cursor.at stays_byte k.b k.next.at e);
      names = rw p c.read_type.ensures.1;
    }
