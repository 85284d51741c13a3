-- `packed_value::judge_values` meets its contract: at each turn what is left is refused as the whole list is. Assumes nothing.
use mathlib.Core.Path.{◌≡◌, sym, subst, ◌∙◌}
use Prim.Native.Nat.{ℕ, ◌*◌, ◌<◌}
use native.Mathlib.Nat.{le_antisymm}
use lib.ListN.{length}
use native.Mathlib.Omega.{arith}
use Rattle.lists.proofs.Lent.{rest_is}
use Rattle.wire.proofs.Exit.{exit_is}
use Rattle.packed.specs.Each.{parts_of}
use Rattle.packed_value.specs.Numbers.{no_values}
use Rattle.packed_value.proofs.Listed.{left, starts_inside, left_fine, left_refused, none_is_left}
use Rattle.packed_value.proofs.judge_values.Goals.{In-loop-i}
use Rattle.packed_value.proofs.judge_values.Goals as goal

there : (c : In-loop-i) → c.loop-i.i < parts_of 3 (length c.args.values.now)
there c = rw c.count-i-end.ensures at c.loop-i-test.true

pub overflow_mul-at : goal.overflow_mul-at
overflow_mul-at c = record { fits = omega (arith, starts_inside c.args.values.now c.loop-i.i (there c)) }

pub offset_bounds-values-at : goal.offset_bounds-values-at
offset_bounds-values-at c = record { fits = omega (arith, starts_inside c.args.values.now c.loop-i.i (there c), c.well_formed) }

pub loop-i-preserved : goal.loop-i-preserved
loop-i-preserved c =
    let vs = c.args.values.now in
    let fine = rw (rest_is vs (3 * c.loop-i.i)) at c.in_ok-judge_value.ensures in
    sym (left_fine vs c.loop-i.i (there (goal.at.loop-i-preserved c).In-loop-i) (sym fine)) ∙ c.loop-i.invariant

pub returns-in_err-judge_value : goal.returns-in_err-judge_value
returns-in_err-judge_value c =
    let vs = c.args.values.now in
    let refused = rw (rest_is vs (3 * c.loop-i.i)) at c.in_err-judge_value.ensures in
    rw (exit_is _ _ c.from_residual.ensures.1)
    (sym (left_refused vs c.loop-i.i (there (goal.at.returns-in_err-judge_value c).In-loop-i) _ (sym refused)) ∙ c.loop-i.invariant)

pub returns : goal.returns
returns c =
    let vs = c.args.values.now in
    let last = le_antisymm c.loop-i.auto.i-end c.loop-i-test.false ∙ c.count-i-end.ensures in
    sym (none_is_left vs) ∙ subst (λ (i : ℕ). left vs i ≡ no_values vs) last c.loop-i.invariant
