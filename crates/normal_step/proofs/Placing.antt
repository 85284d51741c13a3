-- One column's turn: a value that was read under a column was read under the column's family and declared length.
-- Assumes nothing.
use Rattle.std.specs.Prelude.{Option}
use mathlib.Core.Path.{◌≡◌, refl}
use mathlib.Core.Bool.{Bool, true, false}
use mathlib.Core.List.{List}
use Prim.Native.Nat.{ℕ, ◌<◌, ◌^◌}
use Rattle.format.specs.Descriptor as D
use Rattle.format.specs.Descriptor.{keeps_rule}
use Rattle.format.specs.Value.{Family, family_of, read_value, encode}
use Rattle.value_kind.proofs.ColumnLaws.{length_fits_lem}
use Rattle.value_form.specs.Told.{normal_in}
use Rattle.value_normal.specs.declared.Run.{Run}
use Rattle.value_normal.specs.Runs.{RunFits}
use Rattle.normal_step.specs.Steps.{normal_value}

-- under a column that keeps the rule
module _ (c : D.Column) (l : List ℕ) where
  kept-normal : keeps_rule c ≡ true → normal_value c l ≡ normal_in c.length (family_of c.type) l
  unfolding read_value encode
  kept-normal k = rw k

  -- a value that fits keeps it
  module _ (s : List ℕ) (size : ℕ) (run : Run) (f : RunFits s size run (normal_value c l)) where
    kept : keeps_rule c ≡ true
    unfolding read_value
    kept = go (keeps_rule c) refl
      where
        go : (b : Bool) → keeps_rule c ≡ b → keeps_rule c ≡ true
        go true e = e
        go false e = absurd (rw e at f)

    pub length_small : c.length < 256 ^ 4
    length_small = length_fits_lem c kept

    pub in_family : (g : Option Family) → g ≡ family_of c.type → normal_value c l ≡ normal_in c.length g l
    in_family g e = rw e (kept-normal kept)
