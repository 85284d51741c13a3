-- `value_read::read_value` meets its contract: behind the end 1, then rule 6, then what the rest begins with under the family. Assumes nothing.
use mathlib.Core.Path.{◌≡◌, refl, sym, ◌∙◌}
use mathlib.Core.Bool.{true}
use mathlib.Core.List.{List}
use Prim.Native.Nat.{ℕ}
use native.Mathlib.Omega.{arith}
use Rattle.lists.proofs.Lent.{rest_is}
use Rattle.format.specs.Descriptor.{keeps_rule}
use Rattle.column_type.specs.Told.{column_told}
use Rattle.value_kind.proofs.ColumnLaws.{length_fits_lem}
use Rattle.value_read.proofs.Placing.{place_behind_lem, rule-broken, place_inside}
use Rattle.value_read.proofs.read_value.Goals.{Then-keeps_rule}
use Rattle.value_read.proofs.read_value.Goals as goal

pub returns-then-s-at : goal.returns-then-s-at
returns-then-s-at c =
    let a = c.args in
    record {
      told = λ b. (place_behind_lem (column_told b a.c) a.s.now a.cursor.at a.out.now c.if-s-at.true).answered;
      canonical = tt;
      room = λ b. (place_behind_lem (column_told b a.c) a.s.now a.cursor.at a.out.now c.if-s-at.true).stays;
    }

keeps : (c : Then-keeps_rule) (b : List ℕ) → keeps_rule (column_told b c.args.c) ≡ true
keeps c b = sym (c.keeps_rule.ensures b) ∙ c.if-keeps_rule.true

pub overflow_cast-c : goal.overflow_cast-c
overflow_cast-c c =
    let a = c.args in
    record { fits = omega (arith, length_fits_lem (column_told a.s.now a.c) (keeps (goal.at.overflow_cast-c c).Then-keeps_rule a.s.now)) }

pub returns-then-keeps_rule : goal.returns-then-keeps_rule
returns-then-keeps_rule c =
    let a = c.args in
    let f = c.from.ensures in
    let r = rest_is a.s.now a.cursor.at in
    record {
      told = λ b. (place_inside (column_told b a.c) a.s.now a.cursor.at a.out.now c.if-s-at.false
          (keeps (goal.at.returns-then-keeps_rule c).Then-keeps_rule b) _ _ _ _ _ refl f r
          (c.read_in.ensures.told (column_told b a.c) refl) (c.read_in.ensures.room (column_told b a.c) refl)).answered;
      canonical = c.read_in.ensures.canonical;
      room = λ b. (place_inside (column_told b a.c) a.s.now a.cursor.at a.out.now c.if-s-at.false
          (keeps (goal.at.returns-then-keeps_rule c).Then-keeps_rule b) _ _ _ _ _ refl f r
          (c.read_in.ensures.told (column_told b a.c) refl) (c.read_in.ensures.room (column_told b a.c) refl)).stays;
    }

pub returns : goal.returns
returns c =
    let a = c.args in
    let k = c.keeps_rule.ensures in
    record {
      told = λ b. (rule-broken (column_told b a.c) a.s.now a.cursor.at a.out.now c.if-s-at.false (sym (k b) ∙ c.if-keeps_rule.false)).answered;
      canonical = tt;
      room = λ b. (rule-broken (column_told b a.c) a.s.now a.cursor.at a.out.now c.if-s-at.false (sym (k b) ∙ c.if-keeps_rule.false)).stays;
    }
