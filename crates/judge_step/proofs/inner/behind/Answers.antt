-- `judge_step::inner::behind` meets its contract: rule 6, then what the rest begins with, its needs behind the row's so far. The sums do not overflow:
-- the row needs no more bytes than stand before its end. Assumes nothing.
use mathlib.Core.Path.{◌≡◌, refl, sym, ◌∙◌}
use mathlib.Core.Bool.{true}
use mathlib.Core.List.{List}
use Prim.Native.Nat.{ℕ, ◌+◌, ◌≤◌}
use native.Mathlib.Omega.{arith}
use lib.ListN.{length, drop, length-drop}
use Rattle.lists.proofs.Lent.{rest_is}
use Rattle.format.specs.Descriptor.{keeps_rule}
use Rattle.column_type.specs.Told.{column_told}
use Rattle.wire.proofs.Exit.{exit_is}
use Rattle.value_kind.proofs.ColumnLaws.{length_fits_lem}
use Rattle.judge_step.specs.Told.{needs_told}
use Rattle.judge_step.proofs.Placing.{judged_rule, judged_weighed, inside_more}
use Rattle.judge_step.proofs.inner.behind.Goals.{In_ok-n, Then-keeps_rule}
use Rattle.judge_step.proofs.inner.behind.Goals as goal

keeps : (c : Then-keeps_rule) (b : List ℕ) → keeps_rule (column_told b c.args.c) ≡ true
keeps c b = sym (c.keeps_rule.ensures b) ∙ c.if-keeps_rule.true

pub overflow_cast-c : goal.overflow_cast-c
overflow_cast-c c =
    let a = c.args in
    record { fits = omega (arith, length_fits_lem (column_told a.s.now a.c) (keeps (goal.at.overflow_cast-c c).Then-keeps_rule a.s.now)) }

pub returns-in_err-n : goal.returns-in_err-n
returns-in_err-n c =
    let a = c.args in
    rw (exit_is _ _ c.from_residual.ensures.1) (record {
      told = λ b. judged_weighed (column_told b a.c) a.s.now a.row.next.at (needs_told a.row) c.requires.0
          (keeps (goal.at.returns-in_err-n c).Then-keeps_rule b) _ _ _ _ refl c.from.ensures (rest_is a.s.now a.row.next.at) c.in_err-n.ensures.told;
      inside = tt;
    })

-- the value lies in the rest, and needs no more than it took
within : (c : In_ok-n) →
    (c.in_ok-n.n ≤ length (drop c.args.row.next.at c.args.s.now)) × (c.in_ok-n.joined ≤ c.in_ok-n.n) × (c.in_ok-n.normal ≤ c.in_ok-n.n)
within c = let a = c.args in rw (rest_is a.s.now a.row.next.at) at c.in_ok-n.ensures.within

-- the sums fit
sum-most : (c : In_ok-n) →
    (c.args.row.next.at + c.in_ok-n.n ≤ length c.args.s.now) × (c.in_ok-n.joined ≤ c.in_ok-n.n) × (c.in_ok-n.normal ≤ c.in_ok-n.n)
    × (c.args.row.joined ≤ c.args.row.next.at) × (c.args.row.normal ≤ c.args.row.next.at)
sum-most c =
    let w = within c in
    (omega (arith, w.0, c.requires.0, length-drop c.args.row.next.at c.args.s.now), w.1, w.2, c.requires.1, c.requires.2)

pub overflow_add-result : goal.overflow_add-result
overflow_add-result c =
    let m = sum-most c in
    record { fits = omega (arith, m.0, m.1, m.2, c.well_formed) }

pub overflow_add-result-then-keeps_rule : goal.overflow_add-result-then-keeps_rule
overflow_add-result-then-keeps_rule c =
    let m = sum-most (goal.at.overflow_add-result-then-keeps_rule c).In_ok-n in
    record { fits = omega (arith, m.0, m.1, m.2, m.3, m.4, c.well_formed) }

pub overflow_add-result-then-keeps_rule-2 : goal.overflow_add-result-then-keeps_rule-2
overflow_add-result-then-keeps_rule-2 c =
    let m = sum-most (goal.at.overflow_add-result-then-keeps_rule-2 c).In_ok-n in
    record { fits = omega (arith, m.0, m.1, m.2, m.3, m.4, c.well_formed) }

pub returns-then-keeps_rule : goal.returns-then-keeps_rule
returns-then-keeps_rule c =
    let a = c.args in record {
      told = λ b. judged_weighed (column_told b a.c) a.s.now a.row.next.at (needs_told a.row) c.requires.0
          (keeps (goal.at.returns-then-keeps_rule c).Then-keeps_rule b) _ _ _ _ refl c.from.ensures (rest_is a.s.now a.row.next.at) c.in_ok-n.ensures.told;
      inside = inside_more a.s.now a.row.next.at _ _ _ (needs_told a.row) c.requires (within (goal.at.returns-then-keeps_rule c).In_ok-n);
    }

pub returns : goal.returns
returns c =
    let a = c.args in record {
      told = λ b. judged_rule (column_told b a.c) a.s.now a.row.next.at (needs_told a.row) c.requires.0
          (sym (c.keeps_rule.ensures b) ∙ c.if-keeps_rule.false);
      inside = tt;
    }
