-- `value_weigh::weigh_plp` meets its contract: what was judged of the heads, and one head in the normal form. Assumes nothing.
use Prim.Native.Nat.{◌≤◌}
use native.Mathlib.Omega.{arith}
use Rattle.format.specs.Value.{is_text}
use Rattle.value_kind.specs.Told.{content_kind_told}
use Rattle.wire.proofs.Exit.{exit_is}
use Rattle.value_weigh.proofs.Weighing.{judged_null, judged_stops, judged_most, judged_content}
use Rattle.value_weigh.proofs.weigh_plp.Goals as goal

pub returns-in_err-judge_plp : goal.returns-in_err-judge_plp
returns-in_err-judge_plp c =
    let a = c.args in
    let x = exit_is _ _ c.from_residual.ensures.1 in
    let e = rw c.is_text.ensures at c.in_err-judge_plp.ensures in
    record {
      told = rw x (judged_stops (is_text (content_kind_told a.k)) a.rest.now _ e);
      within = rw x tt;
    }

pub returns-in-None : goal.returns-in-None
returns-in-None c =
    let a = c.args in
    let e = judged_null (is_text (content_kind_told a.k)) a.rest.now (rw (c.is_text.ensures, c.in-None.is) at c.in_ok-judge_plp.ensures) in
    record {
      told = e.0;
      within = (e.1, omega arith, omega arith);
    }

pub overflow_cast-count : goal.overflow_cast-count
overflow_cast-count c =
    let a = c.args in
    let e = rw (c.is_text.ensures, c.in-Some.is) at c.in_ok-judge_plp.ensures in
    let m : c.in-Some.count ≤ 65535 = judged_most (is_text (content_kind_told a.k)) a.rest.now _ _ e in
    record { fits = omega (arith, m) }

pub returns-in-Some : goal.returns-in-Some
returns-in-Some c =
    let a = c.args in
    let e = rw (c.is_text.ensures, c.in-Some.is) at c.in_ok-judge_plp.ensures in
    let all = judged_content (is_text (content_kind_told a.k)) a.rest.now _ _ e _ c.formed.ensures.0 in
    record {
      told = all.0;
      within = all.1;
    }
