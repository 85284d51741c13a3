-- `plp::open_walk` meets its contract: the number that the eight bytes are, and what it says. Assumes nothing.
use mathlib.Core.Path.{sym}
use Rattle.format.proofs.Opening.{open_null, open_chunked, open_refused, open_missing}
use Rattle.wire.specs.Told.{refusal_told}
use Rattle.wire.proofs.Exit.{exit_is}
use Rattle.plp_rule.specs.Told.{total_told}
use Rattle.plp.proofs.open_walk.Goals as goal

pub returns-in_err-n : goal.returns-in_err-n
returns-in_err-n c =
    let a = c.args in
    let e = refusal_told c.in_err-n.field-0.0 in
    rw (exit_is _ _ c.from_residual.ensures.1) (sym (open_missing a.text a.s.now a.from.at e (sym c.in_err-n.ensures.0)))

pub returns-in-Null : goal.returns-in-Null
returns-in-Null c =
    let a = c.args in
    let e = rw c.in-Null.is at c.in_ok-eight_of.ensures in
    sym (open_null a.text a.s.now a.from.at _ _ (sym c.in_ok-n.ensures.0) (sym e))

pub returns-in-Chunked : goal.returns-in-Chunked
returns-in-Chunked c =
    let a = c.args in
    let e = rw c.in-Chunked.is at c.in_ok-eight_of.ensures in
    sym (open_chunked a.text a.s.now a.from.at _ _ (sym c.in_ok-n.ensures.0) (total_told c.in-Chunked.total) (sym e))

pub returns-in_err-eight_of : goal.returns-in_err-eight_of
returns-in_err-eight_of c =
    let a = c.args in
    rw (exit_is _ _ c.from_residual-in_err-eight_of.ensures.1)
    (sym (open_refused a.text a.s.now a.from.at _ _ (sym c.in_ok-n.ensures.0) _ (sym c.in_err-eight_of.ensures)))
