-- What a pattern of 64 bits stands for: a NaN's lies above infinity's, its sign aside. Assumes nothing.
use lib.Ieee.{binary64}
use Rattle.bits.proofs.Floats.{nan_yes, nan_no, no_nan}
use Rattle.bits.proofs.float.Float64FromU64.from.Goals as goal

pub float_from_bits-result : goal.float_from_bits-result
float_from_bits-result c = no_nan binary64 c.args.n c.if-n-gt-INFINITY_64.false

pub returns-then-n-gt-INFINITY_64 : goal.returns-then-n-gt-INFINITY_64
returns-then-n-gt-INFINITY_64 c = rw (nan_yes binary64 c.args.n c.if-n-gt-INFINITY_64.true)

pub returns-else-n-gt-INFINITY_64 : goal.returns-else-n-gt-INFINITY_64
returns-else-n-gt-INFINITY_64 c = rw (nan_no binary64 c.args.n c.if-n-gt-INFINITY_64.false)
