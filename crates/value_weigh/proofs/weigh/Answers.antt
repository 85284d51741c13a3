-- `value_weigh::weigh` meets its contract: what was seen of the rest, weighed; all but PLP content has one form. Assumes nothing.
use native.Mathlib.Omega.{arith}
use Rattle.value_kind.specs.Told.{content_kind_told, family_told}
use Rattle.wire.proofs.Exit.{exit_is}
use Rattle.value_weigh.proofs.Weighing.{single_content, single_weighs, stops_weighs, plp_weighs}
use Rattle.value_weigh.proofs.weigh.Goals as goal

pub returns-in_err-n : goal.returns-in_err-n
returns-in_err-n c =
    let a = c.args in
    let x = exit_is _ _ c.from_residual.ensures.1 in
    record {
      told = rw x (stops_weighs a.declared (family_told a.f) a.rest.now _ c.in_err-n.ensures.told);
      within = rw x tt;
    }

pub returns-in-Null : goal.returns-in-Null
returns-in-Null c =
    let a = c.args in
    let e = rw c.in-Null.is at c.in_ok-n.ensures.told in
    let l = rw c.in-Null.is at c.in_ok-n.ensures.lies in
    record {
      told = single_weighs a.declared (family_told a.f) a.rest.now _ _ e tt;
      within = (l, omega arith, omega arith);
    }

pub overflow_add-wide : goal.overflow_add-wide
overflow_add-wide c = omega (arith, c.well_formed, c.bytes.ensures, rw c.in-Scalar.is at c.in_ok-n.ensures.lies)

pub returns-in-Scalar : goal.returns-in-Scalar
returns-in-Scalar c =
    let a = c.args in
    let w = c.bytes.ensures in
    let e = rw c.in-Scalar.is at c.in_ok-n.ensures.told in
    let l = rw c.in-Scalar.is at c.in_ok-n.ensures.lies in
    record {
      told = rw w (single_weighs a.declared (family_told a.f) a.rest.now _ _ e tt);
      within = (rw w l, omega arith, omega arith);
    }

pub overflow_add-long : goal.overflow_add-long
overflow_add-long c = let l = rw c.in-Part.is at c.in_ok-n.ensures.lies in omega (arith, c.well_formed, l.1)

pub returns-in-Part : goal.returns-in-Part
returns-in-Part c =
    let a = c.args in
    let e = rw c.in-Part.is at c.in_ok-n.ensures.told in
    let l = rw c.in-Part.is at c.in_ok-n.ensures.lies in
    let k = content_kind_told c.in-Part.field-0 in
    record {
      told = single_weighs a.declared (family_told a.f) a.rest.now _ _ e (single_content a.declared k _ l.2);
      within = (l.1, omega arith, omega arith);
    }

pub returns-in-Plp : goal.returns-in-Plp
returns-in-Plp c =
    let a = c.args in
    let e = rw c.in-Plp.is at c.in_ok-n.ensures.told in
    let l = rw c.in-Plp.is at c.in_ok-n.ensures.lies in
    let k = content_kind_told c.in-Plp.k in
    record {
      told = plp_weighs a.declared a.rest.now l k (family_told a.f) _ e c.weigh_plp.ensures.told;
      within = c.weigh_plp.ensures.within;
    }
