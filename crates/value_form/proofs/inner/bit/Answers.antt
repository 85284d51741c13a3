-- `value_form::inner::bit` meets its contract: a byte of 0 or 1 is written as it is, any other as 1. Assumes nothing.
use Rattle.value_form.proofs.Forming.{bit_kept, bit_one}
use Rattle.value_form.proofs.inner.bit.Goals as goal

pub returns-then-rest-at-gt1 : goal.returns-then-rest-at-gt1
returns-then-rest-at-gt1 c = bit_one c.args.rest.now c.args.at c.requires c.if-rest-at-gt1.true

pub returns : goal.returns
returns c = bit_kept c.args.rest.now c.args.at c.requires c.if-rest-at-gt1.false
