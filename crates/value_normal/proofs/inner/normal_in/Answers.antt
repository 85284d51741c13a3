-- `value_normal::inner::normal_in` meets its contract: by the value's form. Assumes nothing.
use mathlib.Core.Path.{◌≡◌}
use Prim.Native.Nat.{◌≤◌}
use native.Mathlib.Omega.{arith}
use lib.ListN.{length, drop}
use Rattle.lists.proofs.Lent.{rest_is}
use Rattle.value_kind.specs.Told.{family_told}
use Rattle.value_form.specs.declared.Form.{Form}
use Rattle.value_form.specs.Told.{normal_in, form_told}
use Rattle.value_normal.proofs.Growing.{fits_inside}
use Rattle.value_normal.proofs.Turns.{fits_read, same_inside, same_grows, bit_asks, bit_grows}
use Rattle.value_normal.proofs.inner.normal_in.Goals.{After-form-form, Start}
use Rattle.value_normal.proofs.inner.normal_in.Goals as goal

-- its place lies inside
inside : (c : Start) → c.args.run.at ≤ length c.args.s.now
inside c = fits_inside c.args.s.now (length c.args.out.now) c.args.run (normal_in c.args.declared (family_told c.args.f) (drop c.args.run.at c.args.s.now))
    c.requires

pub slice_bounds-form-count : goal.slice_bounds-form-count
slice_bounds-form-count c = inside (goal.at.slice_bounds-form-count c).Start

pub slice_bounds-form-start : goal.slice_bounds-form-start
slice_bounds-form-start c = omega (arith, inside (goal.at.slice_bounds-form-start c).Start)

pub form-form-requires : goal.form-form-requires
form-form-requires c =
    let a = c.args in
    rw (rest_is a.s.now a.run.at) (fits_read a.s.now (length a.out.now) a.run
    (normal_in c.args.declared (family_told c.args.f) (drop c.args.run.at c.args.s.now)) c.requires)

-- what its form tells, of the rest from the place on
told : (c : After-form-form) (x : Form) → c.form-form.result ≡ x → form_told (drop c.args.run.at c.args.s.now) x
    ≡ (normal_in c.args.declared (family_told c.args.f) (drop c.args.run.at c.args.s.now))
told c x e =
    let a = c.args in
    let r = rest_is a.s.now a.run.at in
    rw (e, r) at c.form-form.ensures

pub overflow_add-result : goal.overflow_add-result
overflow_add-result c =
    let a = c.args in
    let e = told (goal.at.overflow_add-result c).After-form-form _ c.in-Same.is in
    omega (
      arith,
      same_inside a.s.now a.out.now a.run (normal_in c.args.declared (family_told c.args.f) (drop c.args.run.at c.args.s.now)) c.requires
          c.in-Same.n e,
      c.well_formed,
    )

pub overflow_add-at : goal.overflow_add-at
overflow_add-at c =
    let a = c.args in
    let e = told (goal.at.overflow_add-at c).After-form-form _ c.in-Bit.is in
    omega (
      arith,
      (bit_asks a.s.now a.out.now a.run (normal_in c.args.declared (family_told c.args.f) (drop c.args.run.at c.args.s.now)) c.requires
          c.in-Bit.start e).1,
      c.well_formed,
    )

pub bit_in-requires : goal.bit_in-requires
bit_in-requires c =
    let a = c.args in
    bit_asks a.s.now a.out.now a.run (normal_in c.args.declared (family_told c.args.f) (drop c.args.run.at c.args.s.now)) c.requires _
    (told (goal.at.bit_in-requires c).After-form-form _ c.in-Bit.is)

pub plp_in-requires : goal.plp_in-requires
plp_in-requires c =
    let e = told (goal.at.plp_in-requires c).After-form-form _ c.in-Plp.is in
    rw (← e) at c.requires

pub returns-in-Same : goal.returns-in-Same
returns-in-Same c =
    let a = c.args in
    same_grows a.s.now a.out.now a.run (normal_in c.args.declared (family_told c.args.f) (drop c.args.run.at c.args.s.now)) c.requires _
    (told (goal.at.returns-in-Same c).After-form-form _ c.in-Same.is)

pub returns-in-Bit : goal.returns-in-Bit
returns-in-Bit c =
    let a = c.args in
    bit_grows a.s.now a.out.now a.run (normal_in c.args.declared (family_told c.args.f) (drop c.args.run.at c.args.s.now)) c.requires _
    (told (goal.at.returns-in-Bit c).After-form-form _ c.in-Bit.is) _ _
    c.bit_in.ensures.0 c.bit_in.ensures.1

pub returns-in-Plp : goal.returns-in-Plp
returns-in-Plp c =
    let e = told (goal.at.returns-in-Plp c).After-form-form _ c.in-Plp.is in
    rw (← e) c.plp_in.ensures
