-- A value whose width was told, in the turn of its column: it takes its width, copies nothing out, and is its own normal form.
-- Assumes nothing.
use mathlib.Core.Path.{◌≡◌, sym, ap, ◌∙◌}
use mathlib.Core.List.{List}
use Prim.Native.Nat.{ℕ, ◌+◌, ◌≤◌}
use native.Mathlib.Nat.{add-zero}
use lib.ListN.{length, drop}
use Rattle.format.specs.Answer.{took, map_read}
use Rattle.format.specs.Descriptor.{Column}
use Rattle.format.specs.Value.{Value}
use Rattle.value_weigh.specs.Told.{Needs, needs_value}
use Rattle.judge_step.specs.Steps.{plus_needs, judge_on}
use Rattle.plain_look.specs.Stands.{Stands}
use Rattle.plain_look.proofs.Standing.{there_at, length-written}

module _ (c : Column) (s : List ℕ) (at : ℕ) (v : Value) (n : ℕ) (h : at ≤ length s) (w : Stands c (drop at s) v n) where
  needed : (m : Needs) → plus_needs m (needs_value c v) ≡ record { joined = m.joined; normal = m.normal + n }
  needed m = rw (w.none, length-written c s at v n h w, add-zero m.joined)

  pub judged_width : (m : Needs) → took (record { joined = m.joined; normal = m.normal + n }) (at + n) ≡ judge_on c s (took m at)
  judged_width m =
      ap (λ (x : Needs). took x (at + n)) (sym (needed m))
      ∙ sym (ap (map_read (λ (u : Value). plus_needs m (needs_value c u))) (there_at c s at v n h w))
