-- What an answer that was given says of the checks before it: none of them refused. And the clashes of constructors by which cases are shut out.
-- Assumes nothing.
use mathlib.Core.Path.{◌≡◌, refl}
use mathlib.Core.Bool.{Bool, true, false}
use Rattle.lists.proofs.Split.{clash}
use Rattle.format.specs.Answer.{Refusal, Answer, gives, refuses, refuse_if, and_then}

-- a test does not say both
pub no_truth : {P : Type 0} → false ≡ true → P
no_truth h = clash cc

module _ {A : Type 0} where
  -- a refusal gives nothing
  pub no_gives : {P : Type 0} (e : Refusal) (x : A) → refuses e ≡ gives x → P
  no_gives e x h = clash cc

  -- past a check that did not refuse
  pub passed : (b : Bool) (e : Refusal) (r : Answer A) (x : A) → refuse_if b e r ≡ gives x → (b ≡ false) × (r ≡ gives x)
  passed true e r x h = no_gives e x h
  passed false e r x h = (refl, h)

-- one answer behind another
pub and_took : {A B : Type 0} (a : Answer A) (next : A → Answer B) (b : B) → and_then a next ≡ gives b → (x : A) × (a ≡ gives x) × (next x ≡ gives b)
and_took (gives x) next b h = (x, refl, h)
and_took (refuses e) next b h = no_gives e b h
