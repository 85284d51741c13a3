-- `plp_put::inner::put_plp` meets its contract: the chunks, joined in the middle of the frame, stand in their form. Assumes nothing.
use mathlib.Core.Path.{◌≡◌, ◌∙◌}
use mathlib.Core.List.{List, append-nil}
use Prim.Native.Nat.{ℕ}
use native.Mathlib.Nat.{le_refl}
use native.Mathlib.Omega.{arith}
use lib.ListN.{length, drop_of_length-le}
use Rattle.plp_frame.proofs.Frame.{part_end, part_count, part_filled}
use Rattle.plp_join.specs.Told.{content_of, placed}
use Rattle.plp_put.proofs.inner.put_plp.Goals as goal

-- content that takes the whole room
placed-all : (c room : List ℕ) → length room ≡ length c → placed c room ≡ c
placed-all c room l = rw (drop_of_length-le room {i = length c} (omega arith), append-nil)

pub slice_bounds-copy_chunks-end : goal.slice_bounds-copy_chunks-end
slice_bounds-copy_chunks-end c = part_end (content_of c.args.text c.args.rest.now) c.args.out.now _ _ c.requires.1
    (c.put_frame-end.ensures.end, c.put_frame-end.ensures.room)

pub copy_chunks-requires : goal.copy_chunks-requires
copy_chunks-requires c =
    let count = part_count (content_of c.args.text c.args.rest.now) c.args.out.now _ _ c.requires.1
    (c.put_frame-end.ensures.end, c.put_frame-end.ensures.room) in
    (c.requires.0, rw (← count) (le_refl _))

pub returns : goal.returns
returns c =
    let count = part_count (content_of c.args.text c.args.rest.now) c.args.out.now _ _ c.requires.1
    (c.put_frame-end.ensures.end, c.put_frame-end.ensures.room) in
    part_filled (content_of c.args.text c.args.rest.now) c.args.out.now _ _ c.requires.1 (c.put_frame-end.ensures.end, c.put_frame-end.ensures.room) _
    (c.copy_chunks.ensures ∙ placed-all (content_of c.args.text c.args.rest.now) _ count)
