-- `plp_rule::eight_of` meets its contract: the tests are the definition's, in its order. Assumes nothing.
use mathlib.Core.Path.{◌≡◌}
use mathlib.Core.Bool.{true, false}
use native.Mathlib.Omega.{arith}
use lib.Dec.{ltb}
use borrow.Author.Tests.{lt-ltb, le-ltb, ne_eqb}
use Rattle.format.specs.Plp.{plp_bound, plp_null, plp_unknown}
use Rattle.plp_rule.proofs.eight_of.Goals as goal

pub returns-then-n-eq-PLP_NULL : goal.returns-then-n-eq-PLP_NULL
returns-then-n-eq-PLP_NULL c = rw c.if-n-eq-PLP_NULL.true

pub returns-then-n-eq-PLP_UNKNOWN : goal.returns-then-n-eq-PLP_UNKNOWN
returns-then-n-eq-PLP_UNKNOWN c = rw c.if-n-eq-PLP_UNKNOWN.true

pub returns-then-bound-n : goal.returns-then-bound-n
returns-then-bound-n c =
    let n = c.args.n in
    let long : ltb plp_bound n ≡ true = lt-ltb plp_bound n (omega (arith, c.bound.ensures)) in
    rw (ne_eqb n plp_null c.if-n-eq-PLP_NULL.false, ne_eqb n plp_unknown c.if-n-eq-PLP_UNKNOWN.false, long)

pub returns : goal.returns
returns c =
    let n = c.args.n in
    let within : ltb plp_bound n ≡ false = le-ltb plp_bound n (omega (arith, c.bound.ensures)) in
    rw (ne_eqb n plp_null c.if-n-eq-PLP_NULL.false, ne_eqb n plp_unknown c.if-n-eq-PLP_UNKNOWN.false, within)
