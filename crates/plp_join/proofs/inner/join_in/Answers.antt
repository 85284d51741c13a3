-- `plp_join::inner::join_in` meets its contract: judged first, then the room, then the copy, which cannot fail. Assumes nothing.
use Rattle.std.specs.Prelude.{None, Some}
use mathlib.Core.Path.{◌≡◌, sym, ◌∙◌}
use native.Mathlib.Omega.{arith}
use Rattle.format.specs.Answer.{took, map_read}
use Rattle.format.specs.Plp.{read_plp}
use Rattle.wire.proofs.Exit.{exit_is}
use Rattle.plp_join.specs.Told.{counted}
use Rattle.plp_join.proofs.Joining.{counted-content, judged_inside, joins_null, joins_stops, joins_short, joins_content}
use Rattle.plp_join.proofs.inner.join_in.Goals.{In-Some, In-None}
use Rattle.plp_join.proofs.inner.join_in.Goals as goal

-- the value was judged null
null : (c : In-None) →
    let a = c.args in
    map_read counted (read_plp a.text a.rest.now) ≡ took None 8
null c = sym (rw c.in-None.is at c.in_ok-judge_plp.ensures)

pub overflow_add-result : goal.overflow_add-result
overflow_add-result c = omega (arith, c.requires, judged_inside c.args.text c.args.rest.now None 8 (null c))

-- the value was judged content
content : (c : In-Some) →
    let a = c.args in
    map_read counted (read_plp a.text a.rest.now) ≡ took (Some c.in-Some.count) c.in-Some.end
content c = sym (rw c.in-Some.is at c.in_ok-judge_plp.ensures)

pub returns-then-out-count : goal.returns-then-out-count
returns-then-out-count c =
    let a = c.args in
    let j = joins_short (read_plp a.text a.rest.now) a.at a.out.now _ _ (content (goal.at.returns-then-out-count c).In-Some) c.if-out-count.true in
    record {
      answer = j.answered;
      room = j.left;
    }

pub copy_chunks-requires : goal.copy_chunks-requires
copy_chunks-requires c =
    let a = c.args in
    let k = counted-content (read_plp a.text a.rest.now) _ _ (content (goal.at.copy_chunks-requires c).In-Some) in
    (k.is, omega (arith, k.long, c.if-out-count.false))

pub overflow_add-result-in-Some : goal.overflow_add-result-in-Some
overflow_add-result-in-Some c = omega (
  arith,
  c.requires,
  judged_inside c.args.text c.args.rest.now _ _
      (content (goal.at.overflow_add-result-in-Some c).In-Some),
)

pub returns-in-None : goal.returns-in-None
returns-in-None c =
    let a = c.args in
    let j = joins_null (read_plp a.text a.rest.now) a.at a.out.now 8 (null c) in
    record {
      answer = j.answered;
      room = j.left;
    }

pub returns-in_err-judge_plp : goal.returns-in_err-judge_plp
returns-in_err-judge_plp c =
    let a = c.args in
    let j = joins_stops (read_plp a.text a.rest.now) a.at a.out.now _ (sym c.in_err-judge_plp.ensures) in
    record {
      answer = rw (exit_is _ _ c.from_residual.ensures.1) j.answered;
      room = j.left;
    }

pub returns-else-out-count : goal.returns-else-out-count
returns-else-out-count c =
    let a = c.args in
    let j = joins_content (read_plp a.text a.rest.now) a.at a.out.now _ _ (content (goal.at.returns-else-out-count c).In-Some) c.if-out-count.false in
    record {
      answer = j.answered;
      room = c.copy_chunks.ensures ∙ j.left;
    }
