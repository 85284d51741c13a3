-- `content_size::content::content` meets its contract: under its own family content within the bound, and refusal 3 under any other. Assumes nothing.
use mathlib.Core.Path.{refl, sym, ap, ◌∙◌}
use mathlib.Core.Logic.{inl, inr}
use mathlib.Core.List.{[]}
use denote.Enum.Bare.{differs_true, differs_false}
use Rattle.std.proofs.Common.{rules}
use Rattle.format.specs.Answer.{wrote}
use Rattle.value_kind.specs.contracts.family.ContentKind.{the_type}
use Rattle.value_kind.specs.Told.{content_kind_told, span_told}
use Rattle.value_kind.proofs.ContentLaws.{no_fixed, no_listed, other_content, content-size}
use Rattle.content_size.proofs.content.content.Goals as goal

pub returns-then-ne : goal.returns-then-ne
unfolding wrote
returns-then-ne c =
    let a = c.args in
    rw (
      c.in-Content.is,
      other_content a.declared (span_told a.buffer.now a.p) _ a.k (differs_true the_type _ _ (sym c.ne.ensures ∙ c.if-ne.true)),
    )

pub returns-else-ne : goal.returns-else-ne
returns-else-ne c =
    let a = c.args in
    let j = differs_false the_type (search rules) _ _ (sym c.ne.ensures ∙ c.if-ne.false) in
    rw c.in-Content.is
    (content-size a.declared _ (content_kind_told a.k) (span_told a.buffer.now a.p) _ _ _ (ap content_kind_told j) c.is_plp.ensures
    c.content_bound.ensures (c.framed_span.ensures [] refl))

pub returns-in-Fixed : goal.returns-in-Fixed
unfolding wrote
returns-in-Fixed c =
    let a = c.args in
    let p = span_told a.buffer.now a.p in
    elim c.in-Fixed.is [
      | inl w ↦ rw (w.1, no_fixed a.declared p _ (content_kind_told a.k))
      | inr w ↦ rw (w.1, no_listed a.declared p _ (content_kind_told a.k))
    ]

pub returns-in-NotCarried : goal.returns-in-NotCarried
unfolding wrote
returns-in-NotCarried c = rw c.in-NotCarried.is
