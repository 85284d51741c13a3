-- `column_name::read_third` meets its contract: the third name, or why there is none. Assumes nothing.
use mathlib.Core.Path.{refl, sym, ap, ◌∙◌}
use Rattle.format.specs.Descriptor.{read_name, with_names}
use Rattle.format.proofs.Place.{at_map-took, at_map-stops}
use Rattle.wire.specs.Told.{refusal_told}
use Rattle.wire.proofs.Exit.{exit_is}
use Rattle.column_type.specs.Told.{name_bytes}
use Rattle.column_type.proofs.ReadLaws.{names_told}
use Rattle.format.specs.Answer.{took}
use Rattle.format.specs.Descriptor as D
use Rattle.column_name.proofs.read_third.Goals as goal

pub returns-in_err-third : goal.returns-in_err-third
returns-in_err-third c =
    let a = c.args in
    let e = sym c.in_err-third.ensures.0 in
    rw (exit_is _ _ c.from_residual.ensures.1) (
      sym
          (at_map-stops (with_names (name_bytes a.s.now a.first) (name_bytes a.s.now a.second)) (read_name 2) a.s.now a.cursor.at
          (refusal_told c.in_err-third.field-0.0) e),
      tt,
    )

pub returns : goal.returns
returns c =
    let a = c.args in
    let t = c.in_ok-third.third in
    let next = c.in_ok-third.next in
    let f = c.in_ok-third.ensures.1 in
    let e = sym c.in_ok-third.ensures.0 in
    let w = with_names (name_bytes a.s.now a.first) (name_bytes a.s.now a.second) in (
      ap (λ (k : D.Column). took k next.at) (names_told a.s.now a.first a.second t c.requires.0 c.requires.1 f.2)
          ∙ sym (at_map-took w (read_name 2) a.s.now a.cursor.at (name_bytes a.s.now t) next.at e),
      (t, refl, f.0, f.2),
    )
