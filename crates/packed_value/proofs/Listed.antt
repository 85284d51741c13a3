-- The values of a list, judged from the left; and what is known of each where none was refused.
-- Assumes nothing.
use Rattle.std.specs.Prelude.{None, Option, Some}
use mathlib.Core.Path.{◌≡◌, refl, sym, ap, subst, ◌∙◌}
use mathlib.Core.Bool.{Bool, true, false}
use mathlib.Core.List.{List, [], ◌∷◌}
use Prim.Native.Nat.{ℕ, zero, suc, ◌+◌, ◌*◌, ◌<◌, ◌≤◌}
use native.Mathlib.Nat.{not-suc-le-zero, le_of_suc-le-suc}
use native.Mathlib.Omega.{arith}
use lib.Dec.{ltb}
use lib.ListN.{length, get_or, drop, length-drop}
use borrow.Author.Tests.{ltb-false}
use Rattle.lists.specs.Pick.{pick}
use Rattle.lists.proofs.Split.{clash}
use Rattle.format.specs.Answer.{Refusal, rule}
use Rattle.columns.specs.None as None
use Rattle.columns.proofs.Taken.{left_at, none_left}
use Rattle.packed.specs.Each.{parts_of, each}
use Rattle.packed.proofs.Each.{length-each, each_at, part-inside}
use Rattle.packed_value.specs.Numbers.{no_value, first_of, no_values}
use Rattle.packed_value.specs.Made.{given_made, givens_made}

-- none refused, and one that is
first_more : (o : Option Refusal) (os : List (Option Refusal)) → o ≡ None → first_of (o ∷ os) ≡ first_of os
first_more o os e = rw e

first_here : (e : Refusal) (o : Option Refusal) (os : List (Option Refusal)) → o ≡ Some e → first_of (o ∷ os) ≡ Some e
first_here e o os h = rw h

all_none : (os : List (Option Refusal)) (i : ℕ) → first_of os ≡ None → i < length os → get_or os i None ≡ None
all_none [] i h l = absurd (not-suc-le-zero l)
all_none (Some e ∷ os) i h l = clash cc
all_none (None ∷ os) zero h l = refl
all_none (None ∷ os) (suc i) h l = all_none os i h (le_of_suc-le-suc l)

-- three numbers at least
has_three : (v : List ℕ) → no_value v ≡ None → 3 ≤ length v
has_three v h = ltb-false (length v) 3 (go (ltb (length v) 3) _ h)
  where
    go : (t : Bool) (o : Option Refusal) → pick t (Some rule) o ≡ None → t ≡ false
    go true o e = clash cc
    go false o e = refl

module _ (vs : List ℕ) where
  abbrev judged : List (Option Refusal)
  judged = each 3 no_value vs

  counted : length judged ≡ parts_of 3 (length vs)
  counted = length-each 3 no_value vs

  -- what is left at a turn
  abbrev pub left : ℕ → Option Refusal
  left i = first_of (drop i judged)

  module _ (i : ℕ) (l : i < parts_of 3 (length vs)) where
    here : drop i judged ≡ no_value (drop (3 * i) vs) ∷ drop (i + 1) judged
    here =
        left_at None i judged (subst (λ (n : ℕ). i < n) (sym counted) l)
        ∙ ap (λ (o : Option Refusal). o ∷ drop (i + 1) judged) (sym (each_at 3 no_value None i vs l))

    pub starts_inside : 3 * i < length vs
    starts_inside = part-inside 3 i (length vs) (omega arith) l

    pub left_fine : no_value (drop (3 * i) vs) ≡ None → left i ≡ left (i + 1)
    left_fine h = ap first_of here ∙ first_more _ (drop (i + 1) judged) h

    pub left_refused : (e : Refusal) → no_value (drop (3 * i) vs) ≡ Some e → left i ≡ Some e
    left_refused e h = ap first_of here ∙ first_here e _ (drop (i + 1) judged) h

    -- where none was refused, each has its three numbers
    pub whole : no_values vs ≡ None → 3 * i + 3 ≤ length vs
    whole h =
        let n = each_at 3 no_value None i vs l ∙ all_none judged i h (subst (λ (n : ℕ). i < n) (sym counted) l) in
        omega (arith, has_three (drop (3 * i) vs) n, length-drop (3 * i) vs, starts_inside)

    pub given_made_lem : given_made (drop (3 * i) vs) ≡ get_or (givens_made vs) i None.no_value
    given_made_lem = each_at 3 given_made None.no_value i vs l

  pub none_is_left : left (parts_of 3 (length vs)) ≡ None
  none_is_left = rw (sym counted) (ap first_of (none_left judged))

  pub givens-counted : length (givens_made vs) ≡ parts_of 3 (length vs)
  givens-counted = length-each 3 given_made vs
