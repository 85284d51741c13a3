-- `header::header_in` meets its contract: what the type and the status were read as says which case of the definition holds. Assumes nothing.
use mathlib.Core.Path.{sym, ap}
use lib.ListN.{get_or}
use Rattle.format.specs.Answer.{further}
use Rattle.format.specs.Header.{packet_types, packet_statuses}
use Rattle.wire.proofs.Exit.{exit_is}
use Rattle.wire.proofs.Known.{known-gives, known-refused}
use Rattle.header.proofs.Laws.{header-short, header-type, header-status, header_there}
use Rattle.header.proofs.header_in.Goals as goal

pub returns-then-rest-lt8 : goal.returns-then-rest-lt8
returns-then-rest-lt8 c =
    let a = c.args in
    sym (ap (further a.at) (header-short a.rest.now c.if-rest-lt8.true))

pub returns-in_err-ty : goal.returns-in_err-ty
returns-in_err-ty c =
    let a = c.args in
    let r = a.rest.now in
    let l = c.if-rest-lt8.false in
    let t = known-refused packet_types (get_or r 0 0) _ c.in_err-ty.ensures in
    rw (exit_is _ _ c.from_residual.ensures.1, t.1) (sym (ap (further a.at) (header-type r l t.0)))

pub returns-in_err-status : goal.returns-in_err-status
returns-in_err-status c =
    let a = c.args in
    let r = a.rest.now in
    let l = c.if-rest-lt8.false in
    let t = known-gives packet_types _ (get_or r 0 0) c.in_ok-ty.ensures in
    let u = known-refused packet_statuses (get_or r 1 0) _ c.in_err-status.ensures in
    rw (exit_is _ _ c.from_residual-in_err-status.ensures.1, u.1) (sym (ap (further a.at) (header-status r l t.0 u.0)))

pub returns : goal.returns
returns c =
    let a = c.args in
    let r = a.rest.now in
    let l = c.if-rest-lt8.false in
    let t = known-gives packet_types _ (get_or r 0 0) c.in_ok-ty.ensures in
    let u = known-gives packet_statuses _ (get_or r 1 0) c.in_ok-status.ensures in
    rw (t.1, u.1, c.high_at-length.ensures.value, c.high_at-spid.ensures.value) (sym (ap (further a.at) (header_there r l t.0 u.0)))
