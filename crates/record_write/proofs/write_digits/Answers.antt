-- `record_write::write_digits` meets its contract: length, precision and scale. Assumes nothing.
use mathlib.Core.Path.{refl}
use mathlib.Core.List.{[], ◌∷◌, ◌++◌}
use Prim.Native.Nat.{◌<◌}
use native.Mathlib.Omega.{arith}
use lib.ListN.{get_or}
use Rattle.format.specs.Number.{low_bytes}
use Rattle.format.specs.Descriptor.{byte_len}
use Rattle.format.proofs.DescriptorForm.{byte-form}
use Rattle.record_write.specs.Told.{length_at}
use Rattle.record_write.proofs.Laws.{digits_written, digits_stored, written}
use Rattle.record_write.proofs.write_digits.Goals as goal

pub returns : goal.returns
returns c =
    let r = c.args.r.now in
    let out = c.args.out.now in
    let is = c.requires.1 in
    let d = c.is_digits.ensures c.if-not-is_digits.false in
    let precision : get_or r 2 0 < 256 = omega (arith, c.type_inv.r 2) in
    let scale : get_or r 3 0 < 256 = omega (arith, c.type_inv.r 3) in
    let law = digits_written r c.requires.0 (byte_len is.0) is.1 1 (byte-form is.0) is.2 refl d.0 d.1 d.2 precision scale in
    written r out _ (get_or r 0 0 ∷ (low_bytes 1 (length_at r) ++ (get_or r 2 0 ∷ get_or r 3 0 ∷ []))) 4 refl c.if-out-lt4.false law
    (digits_stored out _ _ _ _ _ _ _ _ _ c.put_byte.ensures c.low_at.ensures.value c.put_low.ensures
    c.put_byte-2.ensures c.put_byte-3.ensures)
