-- `row_place::inner::plp_value` meets its contract: what was judged of the heads, told of a value behind what was copied before. Assumes nothing.
use mathlib.Core.Path.{◌∙◌}
use native.Mathlib.Omega.{arith}
use Rattle.format.specs.Value.{is_text}
use Rattle.wire.proofs.Exit.{exit_is}
use Rattle.value_kind.specs.Told.{content_kind_told}
use Rattle.row_place.proofs.Placing.{plp_inside, plp_null_lem, plp_stops, plp_long, plp_placed}
use Rattle.row_place.proofs.inner.plp_value.Goals as goal

pub returns-in_err-judge_plp : goal.returns-in_err-judge_plp
returns-in_err-judge_plp c =
    let a = c.args in
    let x = exit_is _ _ c.from_residual.ensures.1 in
    let e = rw c.is_text.ensures at c.in_err-judge_plp.ensures in
    record {
      told = λ d t. rw x (plp_stops d a.at a.copied t (content_kind_told a.k) a.rest.now _ e);
      canonical = rw x tt;
    }

pub overflow_add-at : goal.overflow_add-at
overflow_add-at c =
    let e = rw (c.is_text.ensures, c.in-None.is) at c.in_ok-judge_plp.ensures in
    omega (arith, c.requires, plp_inside (is_text (content_kind_told c.args.k)) c.args.rest.now _ _ e)

pub returns-in-None : goal.returns-in-None
returns-in-None c =
    let a = c.args in
    let e = rw (c.is_text.ensures, c.in-None.is) at c.in_ok-judge_plp.ensures in
    record {
      told = λ d t. c.placed.ensures.told ∙ plp_null_lem d a.at a.copied t (content_kind_told a.k) a.rest.now e;
      canonical = c.placed.ensures.canonical;
    }

pub returns-then-copied-count : goal.returns-then-copied-count
returns-then-copied-count c =
    let a = c.args in
    let e = rw (c.is_text.ensures, c.in-Some.is) at c.in_ok-judge_plp.ensures in
    record {
      told = λ d t. plp_long d a.at a.copied t (content_kind_told a.k) a.rest.now _ _ e c.if-copied-count.true;
      canonical = tt;
    }

pub overflow_add-at-in-Some : goal.overflow_add-at-in-Some
overflow_add-at-in-Some c =
    let e = rw (c.is_text.ensures, c.in-Some.is) at c.in_ok-judge_plp.ensures in
    let i = plp_inside (is_text (content_kind_told c.args.k)) c.args.rest.now _ _ e in
    record { fits = omega (arith, c.requires, i) }

pub placed-requires-in-Some : goal.placed-requires-in-Some
placed-requires-in-Some c = c.content_found-found.ensures.canonical

pub returns-else-copied-count : goal.returns-else-copied-count
returns-else-copied-count c =
    let a = c.args in
    let e = rw (c.is_text.ensures, c.in-Some.is) at c.in_ok-judge_plp.ensures in
    let k = content_kind_told a.k in
    record {
      told = λ d t. c.placed-in-Some.ensures.told ∙ plp_placed d a.at a.copied t k a.rest.now _ _ e c.if-copied-count.false _
          c.content_found-found.ensures.told;
      canonical = c.placed-in-Some.ensures.canonical;
    }
