-- `record_write::write_short` meets its contract: a bare record, its length in two bytes. Assumes nothing.
use mathlib.Core.Path.{refl}
use mathlib.Core.List.{◌∷◌}
use native.Mathlib.Omega.{arith}
use lib.ListN.{get_or}
use Rattle.format.specs.Number.{low_bytes}
use Rattle.format.specs.Descriptor.{u_short_len}
use Rattle.format.proofs.DescriptorForm.{short-form}
use Rattle.record_write.specs.Told.{length_at}
use Rattle.record_write.proofs.Laws.{bare-written, written}
use Rattle.record_write.proofs.write_short.Goals as goal

pub returns : goal.returns
returns c =
    let r = c.args.r.now in
    let out = c.args.out.now in
    let is = c.requires.1 in
    let bare = c.is_bare.ensures c.if-not-is_bare.false in
    let law = bare-written r c.requires.0 (u_short_len is.0) is.1 2 (short-form is.0) refl is.2 bare in
    written r out _ (get_or r 0 0 ∷ low_bytes 2 (length_at r)) 3 refl c.if-out-lt3.false law
    (rw (c.put_low.ensures, c.low_at.ensures.value, c.put_byte.ensures))
