-- Counts above the places of the arrays: the row is refused as its counts are. Assumes nothing.
use mathlib.Core.Bool.{Bool, true, false}
use mathlib.Core.List.{List}
use mathlib.Core.Path.{◌≡◌, refl}
use Prim.Native.Nat.{ℕ}
use Rattle.lists.proofs.Split.{clash}
use Rattle.format.specs.Answer.{Answer, Refusal, gives, refuses, rule, wrote}
use Rattle.held.specs.Held.{too_many, counted}

pub many : (count given : ℕ) (x : Refusal) (a : Answer (List ℕ))
    → ◌≡◌ {A = Answer (Unit {0})} (refuses x) (counted count (counted given (gives tt))) → refuses x ≡ wrote (counted count (counted given a))
unfolding wrote
many count given x a h = go (too_many count) refl (too_many given) refl
  where
    go : (b : Bool) → too_many count ≡ b → (d : Bool) → too_many given ≡ d → refuses x ≡ wrote (counted count (counted given a))
    go true e d f =
        let r : x ≡ rule = cc (rw e at h) in
        rw (e, r)
    go false e true f =
        let r : x ≡ rule = cc (rw (e, f) at h) in
        rw (e, f, r)
    go false e false f = clash (cc (rw (e, f) at h))
