-- No two outcomes satisfy the contract of a public call of this crate: `standing_told s` has an inverse for every input, and an object is its two fields.
-- Assumes nothing.
use Rattle.std.specs.Prelude.{Err, Ok, Result}
use mathlib.Core.Path.{◌≡◌, refl, ap, sym, ◌∙◌}
use mathlib.Core.List.{List, []}
use Prim.Native.Nat.{ℕ}
use denote.Ref.{Bor}
use Rattle.format.specs.Answer.{Answer, gives, refuses}
use Rattle.format.specs.Plp as P
use Rattle.format.proofs.Decided.{Undoes, decided}
use Rattle.wire.proofs.Decided.{refusal_back, refusal_undoes}
use Rattle.plp.specs.declared.Walk.{Walk}
use Rattle.plp.proofs.Decided.{walk_back, walk_undoes}
use Rattle.plp_walk.specs.declared.Standing.{Standing}
use Rattle.plp_walk.specs.declared.WalkObject.{WalkObject}
use Rattle.plp_walk.specs.Told.{said_told, standing_told, object_told}
use Rattle.wire.specs.declared.Refusal.{Refusal}

abbrev said_back : Answer ℕ → Result ℕ Refusal
said_back (gives k) = Ok k
said_back (refuses e) = Err (refusal_back e)

said_undoes : Undoes said_told said_back
said_undoes (Ok k) = refl
said_undoes (Err e) = ap Err (refusal_undoes e)

abbrev standing_back : P.WalkObject → Standing
standing_back o = record { walk = walk_back o.walk; said = said_back o.said }

standing_undoes : (s : List ℕ) → Undoes (standing_told s) standing_back
standing_undoes s t = rw (said_undoes t.said) (ap (λ (w : Walk). record { walk = w; said = t.said }) (walk_undoes t.walk))

-- `plp_walk::step_on`, `plp_walk::walk_on`
pub standing_decided : (s : List ℕ) (x y : Standing) (b : P.WalkObject) → standing_told s x ≡ b → standing_told s y ≡ b → x ≡ y
standing_decided s = decided (standing_told s) standing_back (standing_undoes s)

-- `plp_walk::at_rest`, which promises it of every input
pub at_rest_decided : (x y : Standing) (b : List ℕ → P.WalkObject) → ((s : List ℕ) → standing_told s x ≡ b s) → ((s : List ℕ) → standing_told s y ≡ b s) → x ≡ y
at_rest_decided x y b p q = standing_decided [] x y (b []) (p []) (q [])

same_object : (x y : WalkObject) → x.input ≡ y.input → x.standing ≡ y.standing → x ≡ y
same_object x y p q = λ i. record { input = p i; standing = q i }

-- `plp_walk::walk_object`
pub new_decided : (input : Bor (List ℕ)) (t : Standing) (x y : WalkObject)
    → (x.input ≡ input) × (x.standing ≡ t) → (y.input ≡ input) × (y.standing ≡ t) → x ≡ y
new_decided input t x y p q = same_object x y (p.0 ∙ sym q.0) (p.1 ∙ sym q.1)

-- `plp_walk::step_walk`
module _ (o x y : WalkObject) (b : P.WalkObject) where
  pub step_decided : (x.input ≡ o.input) × (object_told x ≡ b) → (y.input ≡ o.input) × (object_told y ≡ b) → x ≡ y
  step_decided p q =
      let i : x.input ≡ y.input = p.0 ∙ sym q.0 in
      let e : standing_told y.input.now x.standing ≡ b = ap (λ (r : Bor (List ℕ)). standing_told r.now x.standing) (sym i) ∙ p.1 in
      same_object x y i (standing_decided y.input.now x.standing y.standing b e q.1)

-- `plp_walk::walk_place` and `plp_walk::walk_standing` promise their answer itself
pub answer_decided : {A : Type 0} (x y b : A) → x ≡ b → y ≡ b → x ≡ y
answer_decided x y b p q = p ∙ sym q
