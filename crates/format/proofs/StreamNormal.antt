-- The normal form's answer other than refusal 1 does not change when more bytes follow: it is the row's, with the values turned into bytes.
-- Assumes nothing.
use mathlib.Core.List.{List}
use Rattle.format.specs.Descriptor.{Column}
use Rattle.format.specs.Row.{read_row}
use Rattle.format.specs.Normal.{encode_row, normal}
use Rattle.format.proofs.More.{Streams, stream_map}
use Rattle.format.proofs.MoreReaders.{stream_row}

pub stream_normal : (cs : List Column) → Streams (normal cs)
unfolding normal
stream_normal cs = stream_map (encode_row cs) (read_row cs) (stream_row cs)
