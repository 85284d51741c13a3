-- `record_write::write_alone` meets its contract: a bare record, whose length is 0. Assumes nothing.
use mathlib.Core.Path.{refl}
use mathlib.Core.List.{[], ◌∷◌}
use native.Mathlib.Omega.{arith}
use lib.ListN.{get_or}
use Rattle.format.specs.Descriptor.{fixed_len}
use Rattle.record_write.proofs.Laws.{fixed-form, bare-written, written}
use Rattle.record_write.proofs.write_alone.Goals as goal

pub returns : goal.returns
returns c =
    let r = c.args.r.now in
    let out = c.args.out.now in
    let is = c.requires.1 in
    let bare = c.is_bare.ensures c.if-not-is_bare.false in
    let law = bare-written r c.requires.0 (fixed_len is.0) is.1 0 (fixed-form is.0) refl refl bare in
    written r out _ (get_or r 0 0 ∷ []) 1 refl c.if-out-lt1.false law c.put_byte.ensures
