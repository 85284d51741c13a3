-- `untyped_write::inner::fill_untyped_content` meets its contract: the descriptor, and the content's form in the rest. Assumes nothing.
use mathlib.Core.Path.{refl, sym, ap, ◌∙◌}
use native.Mathlib.Omega.{arith}
use lib.ListN.{length}
use Prim.Native.Nat.{◌-◌}
use mathlib.Core.Bool.{not}
use Rattle.format.specs.Answer.{wrote}
use Rattle.value_kind.specs.Told.{content_kind_told, span_told}
use Rattle.value_kind.specs.Form.{encoded_part, untyped_head}
use Rattle.value_kind.proofs.ContentLaws.{span-count}
use Rattle.value_kind.proofs.FormLaws.{untyped_written, head_room, head_filled}
use Rattle.untyped_write.proofs.inner.fill_untyped_content.Goals as goal

pub write_head-requires : goal.write_head-requires
write_head-requires c =
    let k = content_kind_told c.args.k in
    let p = c.args.p in
    let short = c.is_short-short.result in
    let a = encoded_part k (span_told c.args.buffer.now p) in
    let e = untyped_written c.args.buffer.now p.start p.count _ k short c.is_short-short.ensures c.requires in
    let r = head_room (untyped_head k short) (not short) a _ (c.requires ∙ ap wrote e) in
    r.0

pub slice_bounds-fill_span-count : goal.slice_bounds-fill_span-count
slice_bounds-fill_span-count c =
    let k = content_kind_told c.args.k in
    let p = c.args.p in
    let short = c.is_short-short.result in
    let a = encoded_part k (span_told c.args.buffer.now p) in
    let e = untyped_written c.args.buffer.now p.start p.count _ k short c.is_short-short.ensures c.requires in
    let r = head_room (untyped_head k short) (not short) a _ (c.requires ∙ ap wrote e) in
    omega (arith, r.0, c.write_head.auto.out, c.untyped_head-head.ensures short)

pub slice_bounds-fill_span-start : goal.slice_bounds-fill_span-start
slice_bounds-fill_span-start c =
    let k = content_kind_told c.args.k in
    let p = c.args.p in
    let short = c.is_short-short.result in
    let a = encoded_part k (span_told c.args.buffer.now p) in
    let e = untyped_written c.args.buffer.now p.start p.count _ k short c.is_short-short.ensures c.requires in
    let r = head_room (untyped_head k short) (not short) a _ (c.requires ∙ ap wrote e) in
    omega (arith, r.0, c.write_head.auto.out, c.untyped_head-head.ensures short)

pub fill_span-requires : goal.fill_span-requires
fill_span-requires c =
    let k = content_kind_told c.args.k in
    let p = c.args.p in
    let short = c.is_short-short.result in
    let a = encoded_part k (span_told c.args.buffer.now p) in
    let e = untyped_written c.args.buffer.now p.start p.count _ k short c.is_short-short.ensures c.requires in
    let r = head_room (untyped_head k short) (not short) a _ (c.requires ∙ ap wrote e) in
    let one = c.write_head.new.out in
    let m = c.untyped_head-head.result in
    let i = c.untyped_head-head.ensures short in
    let z = c.write_head.auto.out in
    rw (span-count one m (length one - m) (omega (arith, z, r.0)), z, i) r.1

pub returns : goal.returns
returns c =
    let k = content_kind_told c.args.k in
    let p = c.args.p in
    let short = c.is_short-short.result in
    let a = encoded_part k (span_told c.args.buffer.now p) in
    let e = untyped_written c.args.buffer.now p.start p.count _ k short c.is_short-short.ensures c.requires in
    let r = head_room (untyped_head k short) (not short) a _ (c.requires ∙ ap wrote e) in
    sym
    (e ∙
    sym (head_filled (untyped_head k short) (not short) a c.args.out.now _ _ _ _ (c.requires ∙ ap wrote e)
    (c.untyped_head-head.ensures short) c.write_head.ensures c.fill_span.ensures refl))
