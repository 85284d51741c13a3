-- `value_part::short_content` meets its contract: behind the end and where the rule is broken nothing, else the part that was seen. Assumes nothing.
use mathlib.Core.Path.{◌≡◌, refl, sym, ap, ◌∙◌}
use mathlib.Core.Bool.{true}
use mathlib.Core.List.{List}
use Prim.Native.Nat.{ℕ, ◌+◌}
use native.Mathlib.Omega.{arith}
use Rattle.lists.proofs.Lent.{rest_is}
use Rattle.format.specs.Descriptor.{keeps_rule}
use Rattle.format.specs.Found.{handed_back}
use Rattle.column_type.specs.Told.{column_told}
use Rattle.value_kind.specs.declared.Span.{Span}
use Rattle.value_kind.proofs.ColumnLaws.{length_fits_lem}
use Rattle.value_part.proofs.Placing.{short-behind, short-broken, short_seen, seen_inside}
use Rattle.value_part.proofs.short_content.Goals.{Then-keeps_rule}
use Rattle.value_part.proofs.short_content.Goals as goal

pub returns-then-s-at : goal.returns-then-s-at
returns-then-s-at c =
    let a = c.args in
    λ b. short-behind (column_told b a.c) a.s.now a.cursor.at c.if-s-at.true

keeps : (c : Then-keeps_rule) (b : List ℕ) → keeps_rule (column_told b c.args.c) ≡ true
keeps c b = sym (c.keeps_rule.ensures b) ∙ c.if-keeps_rule.true

pub overflow_cast-c : goal.overflow_cast-c
overflow_cast-c c =
    let a = c.args in
    record { fits = omega (arith, length_fits_lem (column_told a.s.now a.c) (keeps (goal.at.overflow_cast-c c).Then-keeps_rule a.s.now)) }

pub overflow_add-start : goal.overflow_add-start
overflow_add-start c =
    let a = c.args in
    let names = a.s.now in
    omega (
      arith,
      ap (λ (p : Span). p.start) c.part_seen-p.ensures,
      seen_inside (column_told names a.c) a.s.now a.cursor.at c.if-s-at.false (keeps (goal.at.overflow_add-start c).Then-keeps_rule names) _ _ _ refl
          c.from.ensures
          (rest_is a.s.now a.cursor.at) c.look-seen.result c.look-seen.ensures.lies,
    )

pub returns-then-keeps_rule : goal.returns-then-keeps_rule
returns-then-keeps_rule c =
    let a = c.args in
    let r = rest_is a.s.now a.cursor.at in
    let e = c.handed_back.ensures ∙ ap (λ (p : Span). handed_back a.s.now (a.cursor.at + p.start) p.count) c.part_seen-p.ensures in
    λ b. e ∙ short_seen (column_told b a.c) a.s.now a.cursor.at c.if-s-at.false (keeps (goal.at.returns-then-keeps_rule c).Then-keeps_rule b) _ _ _ refl
    c.from.ensures r
    c.look-seen.result c.look-seen.ensures.told c.look-seen.ensures.lies

pub returns : goal.returns
returns c =
    let a = c.args in
    let k = c.keeps_rule.ensures in
    λ b. short-broken (column_told b a.c) a.s.now a.cursor.at c.if-s-at.false (sym (k b) ∙ c.if-keeps_rule.false)
