-- `packed_slot::inner::slot_of` meets its contract, kind by kind. Assumes nothing.
use Rattle.packed_slot.proofs.inner.slot_of.Goals as goal

pub scalar_slot-requires : goal.scalar_slot-requires
scalar_slot-requires c = rw c.in-Scalar.is at c.requires

pub returns-in-Null : goal.returns-in-Null
returns-in-Null c = rw (c.one.ensures, c.in-Null.is)

pub returns-in-Scalar : goal.returns-in-Scalar
returns-in-Scalar c = rw (c.scalar_slot.ensures, c.in-Scalar.is)

pub returns-in-Binary : goal.returns-in-Binary
returns-in-Binary c = rw (c.content_slot.ensures, c.in-Binary.is)

pub returns-in-String : goal.returns-in-String
returns-in-String c = rw (c.content_slot-in-String.ensures, c.in-String.is)
