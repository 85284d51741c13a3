-- `wire::Cursor::byte` meets its contract: inside, the rest begins with the byte; at the end or behind it, there is none. Assumes nothing.
use Rattle.wire.proofs.Reading.{byte_there, byte-missing}
use Rattle.wire.proofs.Cursor.byte.Goals as goal

pub returns-then-at-s : goal.returns-then-at-s
returns-then-at-s c = byte_there _ _ c.if-at-s.true

pub returns-else-at-s : goal.returns-else-at-s
returns-else-at-s c = byte-missing _ _ c.if-at-s.false
