-- What a pattern of 32 bits stands for: a NaN's lies above infinity's, its sign aside. Assumes nothing.
use lib.Ieee.{binary32}
use Rattle.bits.proofs.Floats.{nan_yes, nan_no, no_nan}
use Rattle.bits.proofs.float.Float32FromU32.from.Goals as goal

pub float_from_bits-result : goal.float_from_bits-result
float_from_bits-result c = no_nan binary32 c.args.n c.if-n-gt-INFINITY_32.false

pub returns-then-n-gt-INFINITY_32 : goal.returns-then-n-gt-INFINITY_32
returns-then-n-gt-INFINITY_32 c = rw (nan_yes binary32 c.args.n c.if-n-gt-INFINITY_32.true)

pub returns-else-n-gt-INFINITY_32 : goal.returns-else-n-gt-INFINITY_32
returns-else-n-gt-INFINITY_32 c = rw (nan_no binary32 c.args.n c.if-n-gt-INFINITY_32.false)
