-- `untyped_size::untyped_content` meets its contract: the same path with the descriptor in front. Assumes nothing.
use mathlib.Core.Path.{sym}
use Rattle.value_kind.specs.Told.{content_kind_told}
use Rattle.value_kind.specs.Form.{untyped_head}
use Rattle.value_kind.proofs.ContentLaws.{untyped_size}
use Rattle.untyped_size.proofs.untyped_content.Goals as goal

pub returns : goal.returns
returns c =
    let a = c.args in
    let short = c.is_short-short.result in
    let k = content_kind_told a.k in
    untyped_size a.buffer.now a.p.start a.p.count k short _ _ c.is_short-short.ensures
    c.untyped_limit.ensures
    (c.framed_span.ensures (untyped_head k short) (sym (c.untyped_head.ensures short)))
