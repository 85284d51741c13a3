-- `record_write::write_byte` meets its contract: a bare record, its length in one byte. Assumes nothing.
use mathlib.Core.Path.{refl}
use mathlib.Core.List.{◌∷◌}
use native.Mathlib.Omega.{arith}
use lib.ListN.{get_or}
use Rattle.format.specs.Number.{low_bytes}
use Rattle.format.specs.Descriptor.{byte_len}
use Rattle.format.proofs.DescriptorForm.{byte-form}
use Rattle.record_write.specs.Told.{length_at}
use Rattle.record_write.proofs.Laws.{bare-written, written}
use Rattle.record_write.proofs.write_byte.Goals as goal

pub returns : goal.returns
returns c =
    let r = c.args.r.now in
    let out = c.args.out.now in
    let is = c.requires.1 in
    let bare = c.is_bare.ensures c.if-not-is_bare.false in
    let law = bare-written r c.requires.0 (byte_len is.0) is.1 1 (byte-form is.0) is.2 refl bare in
    written r out _ (get_or r 0 0 ∷ low_bytes 1 (length_at r)) 2 refl c.if-out-lt2.false law
    (rw (c.put_low.ensures, c.low_at.ensures.value, c.put_byte.ensures))
