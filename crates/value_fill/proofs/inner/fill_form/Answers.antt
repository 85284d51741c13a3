-- `value_fill::inner::fill_form` meets its contract: the count in front, and the content in the rest. Assumes nothing.
use mathlib.Core.Path.{refl}
use native.Mathlib.Omega.{arith}
use Prim.Native.Nat.{◌-◌}
use lib.ListN.{length}
use Rattle.value_kind.specs.Told.{content_kind_told}
use Rattle.value_kind.specs.Form.{encoded}
use Rattle.value_kind.proofs.ContentLaws.{span-count}
use Rattle.value_kind.proofs.FormLaws.{short-room, short-filled}
use Rattle.value_fill.proofs.inner.fill_form.Goals as goal

pub fill_plp-requires : goal.fill_plp-requires
fill_plp-requires c = rw c.if-plp.true at c.requires

pub returns-then-plp : goal.returns-then-plp
returns-then-plp c = rw c.if-plp.true c.fill_plp.ensures

pub overflow_sub-n : goal.overflow_sub-n
overflow_sub-n c =
    let a = encoded (content_kind_told c.args.k) c.args.s.now in
    let p = rw c.if-plp.false at c.requires in
    (short-room a _ p).0

pub put_low-requires : goal.put_low-requires
put_low-requires c =
    let a = encoded (content_kind_told c.args.k) c.args.s.now in
    let p = rw c.if-plp.false at c.requires in
    (short-room a _ p).0

pub slice_bounds-fill_content-count : goal.slice_bounds-fill_content-count
slice_bounds-fill_content-count c =
    let a = encoded (content_kind_told c.args.k) c.args.s.now in
    let p = rw c.if-plp.false at c.requires in
    omega (arith, c.put_low.auto.out, (short-room a _ p).0)

pub slice_bounds-fill_content-start : goal.slice_bounds-fill_content-start
slice_bounds-fill_content-start c =
    let a = encoded (content_kind_told c.args.k) c.args.s.now in
    let p = rw c.if-plp.false at c.requires in
    omega (arith, c.put_low.auto.out, (short-room a _ p).0)

pub fill_content-requires : goal.fill_content-requires
fill_content-requires c =
    let a = encoded (content_kind_told c.args.k) c.args.s.now in
    let p = rw c.if-plp.false at c.requires in
    let r = short-room a _ p in
    let one = c.put_low.new.out in
    let k = c.put_low.auto.out in
    rw (span-count one 2 (length one - 2) (omega (arith, k, r.0)), k) r.1

pub returns : goal.returns
returns c =
    let a = encoded (content_kind_told c.args.k) c.args.s.now in
    let p = rw c.if-plp.false at c.requires in
    rw c.if-plp.false (short-filled a c.args.out.now _ _ _ p c.put_low.ensures c.fill_content.ensures refl)
