-- One column's turn in judging: rule 6, then what the rest begins with under the column's family and declared length.
-- Why it holds: reading at a place inside is reading the rest from there, and a column that keeps the rule is read by its family.
-- Assumes nothing.
use Rattle.std.specs.Prelude.{Option}
use mathlib.Core.Path.{◌≡◌, refl, sym, ap, ◌∙◌}
use mathlib.Core.Bool.{true, false}
use mathlib.Core.List.{List}
use Prim.Native.Nat.{ℕ, ◌+◌, ◌≤◌}
use native.Mathlib.Omega.{arith}
use lib.ListN.{length, drop, length-drop}
use Rattle.format.specs.Answer.{Read, took, stops, rule, further, map_read}
use Rattle.format.specs.Descriptor as D
use Rattle.format.specs.Descriptor.{keeps_rule}
use Rattle.format.specs.Value.{Value, Family, family_of, read_family, copied_out, encode}
use Rattle.value_kind.proofs.ColumnLaws.{read-broken, read_kept}
use Rattle.value_weigh.specs.Told.{Needs, needs_value, needs_in}
use Rattle.judge_step.specs.Steps.{plus_needs, judge_on, Inside}

-- a value of a column needs what it needs under the column's family and declared length
needs_same : (c : D.Column) (v : Value) (declared : ℕ) (f : Option Family) → c.length ≡ declared → f ≡ family_of c.type
    → needs_in declared f v ≡ needs_value c v
unfolding copied_out encode
needs_same c v declared f l g = rw (← l, g)

-- one value more, behind what the row needs so far
abbrev pub on_weighed : Needs → ℕ → Read Needs → Read Needs
on_weighed before at (took m n) = took (plus_needs before m) (at + n)
on_weighed before at (stops e) = stops e

module _ (c : D.Column) (s : List ℕ) (at : ℕ) (before : Needs) (h : at ≤ length s) where
  pub judged_rule : keeps_rule c ≡ false → stops rule ≡ judge_on c s (took before at)
  judged_rule k = sym (ap (map_read (λ (v : Value). plus_needs before (needs_value c v))) (read-broken c s at h k))

  weighs_on : (declared : ℕ) (f : Option Family) → c.length ≡ declared → f ≡ family_of c.type → (r : Read Value)
      → on_weighed before at (map_read (needs_in declared f) r) ≡ map_read (λ (v : Value). plus_needs before (needs_value c v)) (further at r)
  weighs_on declared f l g (took v n) = ap (λ (m : Needs). took (plus_needs before m) (at + n)) (needs_same c v declared f l g)
  weighs_on declared f l g (stops e) = refl

  pub judged_weighed : keeps_rule c ≡ true → (declared : ℕ) (f : Option Family) (rest : List ℕ) (w : Read Needs)
      → c.length ≡ declared → f ≡ family_of c.type → rest ≡ drop at s → w ≡ map_read (needs_in declared f) (read_family declared f rest)
      → on_weighed before at w ≡ judge_on c s (took before at)
  judged_weighed k declared f rest w l g r e =
      ap (on_weighed before at) e
      ∙ (weighs_on declared f l g (read_family declared f rest)
      ∙ sym (ap (map_read (λ (v : Value). plus_needs before (needs_value c v))) (read_kept c s at h k declared f rest l g r)))

-- a value that lies in the rest, and needs no more than it took: the row with it lies inside
pub inside_more : (s : List ℕ) (at n joined normal : ℕ) (before : Needs) → Inside (length s) (took before at)
    → (n ≤ length (drop at s)) × (joined ≤ n) × (normal ≤ n)
    → Inside (length s) (took (plus_needs before (record { joined = joined; normal = normal })) (at + n))
inside_more s at n joined normal before i w = (
  omega (arith, length-drop at s, i.0, w.0),
  omega (arith, i.1, w.1),
  omega (arith, i.2, w.2),
)
