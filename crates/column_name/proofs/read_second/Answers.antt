-- `column_name::read_second` meets its contract: the second name, and the third behind it. Assumes nothing.
use Prim.Native.Nat.{◌+◌}
use native.Mathlib.Omega.{arith}
use mathlib.Core.Path.{sym, ◌∙◌}
use Rattle.format.specs.Descriptor.{read_name, read_third}
use Rattle.format.proofs.Place.{at_then, at_then_stops}
use Rattle.wire.specs.Told.{refusal_told}
use Rattle.wire.proofs.Exit.{exit_is}
use Rattle.column_type.specs.Told.{name_bytes}
use Rattle.column_type.proofs.ReadLaws.{stays_name, third_names}
use Rattle.column_name.proofs.read_second.Goals as goal

pub read_third-requires : goal.read_third-requires
read_third-requires c = (c.requires.1, c.in_ok-second.ensures.1.2)

pub returns-in_err-second : goal.returns-in_err-second
returns-in_err-second c =
    let a = c.args in
    let e = sym c.in_err-second.ensures.0 in
    rw (exit_is _ _ c.from_residual.ensures.1) (
      sym (at_then_stops (read_name 1) (read_third (name_bytes a.s.now a.first)) a.s.now a.cursor.at (refusal_told c.in_err-second.field-0.0) e),
      tt,
    )

pub returns : goal.returns
returns c =
    let a = c.args in
    let t = c.in_ok-second.second in
    let next = c.in_ok-second.next in
    let f = c.in_ok-second.ensures.1 in
    let e = sym c.in_ok-second.ensures.0 in (
      c.read_third.ensures.0
          ∙
          sym
          (at_then (read_name 1) (read_third (name_bytes a.s.now a.first)) a.s.now a.cursor.at (stays_name 1)
          (name_bytes a.s.now t) next.at e),
      third_names a.s.now a.first t (next.at + 2) c.read_third.result (omega (arith, c.requires.0, f.0)) (omega (arith, f.1))
          c.read_third.ensures.1,
    )
