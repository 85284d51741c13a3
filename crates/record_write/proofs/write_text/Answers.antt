-- `record_write::write_text` meets its contract: length, collation and sort byte. Assumes nothing.
use mathlib.Core.Path.{refl, subst}
use mathlib.Core.List.{[], ◌∷◌, ◌++◌}
use Prim.Native.Nat.{ℕ, ◌<◌, ◌^◌}
use native.Mathlib.Omega.{arith}
use lib.ListN.{get_or}
use Rattle.format.specs.Number.{low_bytes}
use Rattle.format.specs.Descriptor.{u_short_len}
use Rattle.format.proofs.DescriptorForm.{short-form}
use Rattle.record_write.specs.Told.{length_at}
use Rattle.record_write.proofs.Laws.{text-written, text_stored, written}
use Rattle.packed.specs.Packed.{info_at}
use Rattle.record_write.proofs.write_text.Goals as goal

pub returns : goal.returns
returns c =
    let r = c.args.r.now in
    let out = c.args.out.now in
    let is = c.requires.1 in
    let d = c.is_text.ensures c.if-not-is_text.false in
    let info = subst (λ (x : ℕ). x < 256 ^ 4) c.low_at-2.ensures.value c.low_at-2.ensures.small in
    let sort : get_or r 12 0 < 256 = omega (arith, c.type_inv.r 12) in
    let law = text-written r c.requires.0 (u_short_len is.0) is.1 2 (short-form is.0) refl is.2 d d.2 info sort in
    written r out _ (get_or r 0 0 ∷ (low_bytes 2 (length_at r) ++ (low_bytes 4 (info_at r) ++ (get_or r 12 0 ∷ [])))) 8 refl
    c.if-out-lt8.false law
    (text_stored out _ _ _ _ _ _ _ _ _ _ c.put_byte.ensures c.low_at.ensures.value c.put_low.ensures
    c.low_at-2.ensures.value c.put_low-2.ensures c.put_byte-2.ensures)
