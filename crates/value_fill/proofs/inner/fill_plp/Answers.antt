-- `value_fill::inner::fill_plp` meets its contract: the content, put in the middle of the frame, stands in its form. Assumes nothing.
use mathlib.Core.Path.{◌≡◌, ap}
use mathlib.Core.Bool.{true}
use mathlib.Core.List.{List}
use Prim.Native.Nat.{ℕ}
use lib.ListN.{length}
use Rattle.format.specs.Answer.{gives, wrote}
use Rattle.plp_frame.proofs.Frame.{part_end, part_count, part_filled}
use Rattle.value_kind.specs.Told.{content_kind_told}
use Rattle.value_kind.specs.Form.{encoded, formed}
use Rattle.value_kind.proofs.FormLaws.{form-content}
use Rattle.value_fill.proofs.inner.fill_plp.Goals.{Start}
use Rattle.value_fill.proofs.inner.fill_plp.Goals as goal

-- the content is there, and the room has its form's size
content : (c : Start) →
    let a = c.args in
    (x : List ℕ) × (encoded (content_kind_told a.k) a.s.now ≡ gives x) × (length a.out.now ≡ length (formed true x))
content c = form-content true (encoded (content_kind_told c.args.k) c.args.s.now) (length c.args.out.now) c.requires

pub put_frame-end-requires : goal.put_frame-end-requires
put_frame-end-requires c = let x = content (goal.at.put_frame-end-requires c).Start in (x.0, x.2)

pub slice_bounds-fill_content-end : goal.slice_bounds-fill_content-end
slice_bounds-fill_content-end c =
    let x = content (goal.at.slice_bounds-fill_content-end c).Start in
    part_end x.0 c.args.out.now _ _ x.2 (c.put_frame-end.ensures.end, c.put_frame-end.ensures.room)

pub fill_content-requires : goal.fill_content-requires
unfolding wrote
fill_content-requires c =
    let x = content (goal.at.fill_content-requires c).Start in
    rw x.1 (ap gives (part_count x.0 c.args.out.now _ _ x.2 (c.put_frame-end.ensures.end, c.put_frame-end.ensures.room)))

pub returns : goal.returns
returns c =
    let x = content (goal.at.returns c).Start in
    let same : c.fill_content.new.out ≡ x.0 = cc (c.fill_content.ensures, x.1) in
    rw x.1 (ap gives (part_filled x.0 c.args.out.now _ _ x.2 (c.put_frame-end.ensures.end, c.put_frame-end.ensures.room) _ same))
