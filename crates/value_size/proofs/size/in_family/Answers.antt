-- `value_size::size::in_family` meets its contract: each kind of value has its own size. Assumes nothing.
use Rattle.value_size.proofs.size.in_family.Goals as goal

pub returns-in-Null : goal.returns-in-Null
returns-in-Null c = rw c.in-Null.is c.null.ensures

pub returns-in-Scalar : goal.returns-in-Scalar
returns-in-Scalar c = rw c.in-Scalar.is c.scalar.ensures

pub returns-in-Binary : goal.returns-in-Binary
returns-in-Binary c = rw c.in-Binary.is c.content.ensures

pub returns-in-String : goal.returns-in-String
returns-in-String c = rw c.in-String.is c.content-in-String.ensures
