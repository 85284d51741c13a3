-- No two outcomes satisfy the contract of `join_plp`: `joined_told` has an inverse, and the room is a function of the input.
-- Assumes nothing.
use Rattle.std.specs.Prelude.{Err, None, Ok, Option, Result, Some}
use mathlib.Core.Path.{◌≡◌, refl, ap}
use mathlib.Core.Bool.{Bool}
use mathlib.Core.List.{List}
use Prim.Native.Nat.{ℕ}
use lib.ListN.{length}
use Rattle.format.specs.Answer.{Read, took, stops, map_read}
use Rattle.format.specs.Plp as P
use Rattle.format.proofs.Decided.{Undoes, decided, one_room}
use Rattle.wire.proofs.Decided.{refusal_back, refusal_undoes}
use Rattle.plp_join.specs.Told.{counted, joined_told}
use Rattle.wire.specs.declared.Cursor.{Cursor}
use Rattle.wire.specs.declared.Refusal.{Refusal}

abbrev joined_back : Read (Option ℕ) → Result (Option ℕ × Cursor) Refusal
joined_back (took None n) = Ok (None, (record { at = n }))
joined_back (took (Some c) n) = Ok (Some c, (record { at = n }))
joined_back (stops e) = Err (refusal_back e)

joined_undoes : Undoes joined_told joined_back
joined_undoes (Ok (None, c)) = refl
joined_undoes (Ok (Some n, c)) = refl
joined_undoes (Err e) = ap Err (refusal_undoes e)

-- `plp_join::join_plp`: what it promises of its answer and of the room, and that this is one answer and one room
pub record JoinsPlp (text : Bool) (s : List ℕ) (at : ℕ) (out : List ℕ) (r : Result (Option ℕ × Cursor) Refusal) (after : List ℕ) : Type 0 where
  pub answer : joined_told r ≡ map_read counted (P.join_plp text s at (length out))
  pub room : after ≡ P.room_after_join text s at out

module _ (text : Bool) (s : List ℕ) (at : ℕ) (out : List ℕ) (x y : Result (Option ℕ × Cursor) Refusal) (a b : List ℕ) where
  pub join_plp_decided : JoinsPlp text s at out x a → JoinsPlp text s at out y b → (x ≡ y) × (a ≡ b)
  join_plp_decided p q = (decided joined_told joined_back joined_undoes x y _ p.answer q.answer, one_room a b _ p.room q.room)
