-- No two outcomes satisfy the contract of `judge_row`.
-- Why it holds: `row_judged_told` has an inverse.
-- Assumes nothing.
use Rattle.std.specs.Prelude.{Err, Ok, Result}
use mathlib.Core.Path.{◌≡◌, refl, ap}
use mathlib.Core.List.{List, []}
use Prim.Native.Nat.{ℕ}
use Rattle.format.specs.Answer.{Read, took, stops, map_read, read_at}
use Rattle.format.specs.Row.{read_row}
use Rattle.format.proofs.Decided.{Undoes, decided}
use Rattle.wire.proofs.Decided.{refusal_back, refusal_undoes}
use Rattle.column_type.specs.declared.Column.{Column}
use Rattle.columns.specs.Told.{columns_told}
use Rattle.value_weigh.specs.Told.{Needs}
use Rattle.judge_step.specs.Told.{needs_of, row_judged_told}
use Rattle.judge_step.specs.declared.RowNeeds.{RowNeeds}
use Rattle.wire.specs.declared.Refusal.{Refusal}

abbrev pub judged_back : Read Needs → Result RowNeeds Refusal
judged_back (took n at) = Ok (record { next = record { at = at }; joined = n.joined; normal = n.normal })
judged_back (stops e) = Err (refusal_back e)

pub judged_undoes : Undoes row_judged_told judged_back
judged_undoes (Ok n) = refl
judged_undoes (Err e) = ap Err (refusal_undoes e)

-- what it promises of its answer
pub record JudgesRow (cols : List Column) (s : List ℕ) (at : ℕ) (r : Result RowNeeds Refusal) : Type 0 where
  pub told : (b : List ℕ) → row_judged_told r ≡ map_read (needs_of (columns_told b cols)) (read_at (read_row (columns_told b cols)) s at)

-- and that this is one answer
pub judge_row_decided : (cols : List Column) (s : List ℕ) (at : ℕ) (x y : Result RowNeeds Refusal) → JudgesRow cols s at x → JudgesRow cols s at y → x ≡ y
judge_row_decided cols s at x y p q = decided row_judged_told judged_back judged_undoes x y _ (p.told []) (q.told [])
