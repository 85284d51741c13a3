-- `plp_join::judge_plp` meets its contract: a walk opened at the front, and as many heads as there could be. Assumes nothing.
use mathlib.Core.Path.{sym}
use Rattle.wire.proofs.Exit.{exit_is}
use Rattle.plp_join.proofs.Joining.{judge_null, judge_stops, judge_content, judge_refused}
use Rattle.plp_join.proofs.judge_plp.Goals as goal

pub returns-in_err-c : goal.returns-in_err-c
returns-in_err-c c =
    let a = c.args in
    rw (exit_is _ _ c.from_residual.ensures.1) (sym (judge_stops a.text a.rest.now _ (sym c.in_err-c.ensures)))

pub returns-in-Null : goal.returns-in-Null
returns-in-Null c =
    let a = c.args in
    let o = rw c.in-Null.is at c.in_ok-c.ensures in
    sym (judge_null a.text a.rest.now _ (sym o))

pub returns-in_err-x-in-Walk : goal.returns-in_err-x-in-Walk
returns-in_err-x-in-Walk c =
    let a = c.args in
    let o = rw c.in-Walk.is at c.in_ok-c.ensures in
    rw (exit_is _ _ c.from_residual-in_err-x-in-Walk.ensures.1) (sym (judge_refused a.text a.rest.now _ _ (sym o) _ (sym c.in_err-x-in-Walk.ensures)))

pub returns-in_ok-x-in-Walk : goal.returns-in_ok-x-in-Walk
returns-in_ok-x-in-Walk c =
    let a = c.args in
    let o = rw c.in-Walk.is at c.in_ok-c.ensures in
    sym (judge_content a.text a.rest.now _ _ (sym o) _ (sym c.in_ok-x-in-Walk.ensures))
