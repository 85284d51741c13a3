-- No two outcomes satisfy the contract of a public call of this crate: `..Told` has an inverse.
-- Assumes nothing.
use Rattle.std.specs.Prelude.{Err, None, Ok, Option, Result, Some}
use mathlib.Core.Path.{◌≡◌, refl, ap}
use Prim.Native.Nat.{ℕ}
use Rattle.format.specs.Answer.{Answer, gives, refuses, Read, took, stops}
use Rattle.format.specs.Plp as P
use Rattle.format.proofs.Decided.{Undoes, decided}
use Rattle.wire.proofs.Decided.{refusal_back, refusal_undoes}
use Rattle.plp.specs.declared.Walk.{Walk}
use Rattle.plp.specs.declared.Opened.{Opened}
use Rattle.plp.specs.declared.Opened.TheVariants as O
use Rattle.plp_rule.specs.Told.{total_told}
use Rattle.plp.specs.Told.{walk_told, opened_told, walked_told}
use Rattle.wire.specs.declared.Refusal.{Refusal}

abbrev pub total_back : Option ℕ → Option ℕ
total_back None = None
total_back (Some n) = Some n

total_undoes : Undoes total_told total_back
total_undoes None = refl
total_undoes (Some n) = refl

abbrev pub walk_back : P.Walk → Walk
walk_back w = record { at = w.at; sum = w.sum; total = total_back w.total; text = w.text; ended = w.ended }

pub walk_undoes : Undoes walk_told walk_back
walk_undoes w = rw (total_undoes w.total)

abbrev opened_back : Read (Option P.Walk) → Result Opened Refusal
opened_back (took (Some w) n) = Ok (O.Walk (walk_back w))
opened_back (took None n) = Ok (O.Null (record { at = n }))
opened_back (stops e) = Err (refusal_back e)

opened_undoes : Undoes opened_told opened_back
opened_undoes (Ok (O.Walk w)) = ap (λ (x : Walk). Ok (O.Walk x)) (walk_undoes w)
opened_undoes (Ok (O.Null c)) = refl
opened_undoes (Err e) = ap Err (refusal_undoes e)

-- `plp::open_walk`
pub open_walk_decided : (x y : Result Opened Refusal) (b : Read (Option P.Walk)) → opened_told x ≡ b → opened_told y ≡ b → x ≡ y
open_walk_decided = decided opened_told opened_back opened_undoes

abbrev walked_back : Answer P.Walked → Result (Walk × ℕ) Refusal
walked_back (gives x) = Ok ((walk_back x.walk), x.taken)
walked_back (refuses e) = Err (refusal_back e)

walked_undoes : Undoes walked_told walked_back
walked_undoes (Ok (w, k)) = ap (λ (x : Walk). Ok (x, k)) (walk_undoes w)
walked_undoes (Err e) = ap Err (refusal_undoes e)

-- `plp::walk_chunks`
pub walk_chunks_decided : (x y : Result (Walk × ℕ) Refusal) (b : Answer P.Walked) → walked_told x ≡ b → walked_told y ≡ b → x ≡ y
walk_chunks_decided = decided walked_told walked_back walked_undoes
