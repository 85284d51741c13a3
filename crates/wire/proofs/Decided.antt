-- No two outcomes satisfy the contract of a public call of this crate: `..Told` has an inverse.
-- Assumes nothing.
use mathlib.Core.Path.{◌≡◌, refl, ap}
use mathlib.Core.List.{List}
use Prim.Native.Nat.{ℕ}
use Rattle.std.specs.Prelude.{Result, Ok, Err}
use lib.ListN.{length}
use Rattle.format.specs.Answer.{Answer, gives, refuses, Read, took, stops, fitted, wrote, room_after}
use Rattle.format.specs.Answer as A
use Rattle.format.proofs.Decided.{Undoes, decided, one_room}
use Rattle.wire.specs.declared.Refusal.{Refusal}
use Rattle.wire.specs.declared.Refusal.TheVariants as R
use Rattle.wire.specs.declared.Cursor.{Cursor}
use Rattle.wire.specs.Told.{refusal_told, answer_told, read_told}

abbrev pub refusal_back : A.Refusal → Refusal
refusal_back A.missing = R.Missing
refusal_back A.unknown = R.Unknown
refusal_back A.kind = R.Kind
refusal_back A.room = R.Room
refusal_back A.long = R.Long
refusal_back A.rule = R.Rule
refusal_back A.not_carried = R.NotCarried
refusal_back A.sequence = R.Sequence
refusal_back A.not_text = R.NotText

pub refusal_undoes : Undoes refusal_told refusal_back
refusal_undoes R.Missing = refl
refusal_undoes R.Unknown = refl
refusal_undoes R.Kind = refl
refusal_undoes R.Room = refl
refusal_undoes R.Long = refl
refusal_undoes R.Rule = refl
refusal_undoes R.NotCarried = refl
refusal_undoes R.Sequence = refl
refusal_undoes R.NotText = refl

abbrev answer_back : {A : Type 0} → Answer A → Result A Refusal
answer_back (gives v) = Ok v
answer_back (refuses e) = Err (refusal_back e)

answer_undoes : {A : Type 0} → Undoes (answer_told {A = A}) (answer_back {A = A})
answer_undoes (Ok v) = refl
answer_undoes (Err e) = ap Err (refusal_undoes e)

-- every call that answers a value or a refusal: one answer, whatever the definition gives
pub answer_decided : {A : Type 0} (x y : Result A Refusal) (b : Answer A) → answer_told x ≡ b → answer_told y ≡ b → x ≡ y
answer_decided {A = A} = decided (answer_told {A = A}) answer_back answer_undoes

-- what every writer with a room promises, of whatever its definition gives: its answer, and the room afterwards
pub record Writes (given : Answer (List ℕ)) (out : List ℕ) (r : Result ℕ Refusal) (after : List ℕ) : Type 0 where
  pub answer : answer_told r ≡ wrote (fitted given (length out))
  pub room : after ≡ room_after (fitted given (length out)) out

-- one answer and one room
pub writes_decided : (given : Answer (List ℕ)) (out : List ℕ) (x y : Result ℕ Refusal) (a b : List ℕ) → Writes given out x a → Writes given out y b →
    (x ≡ y) × (a ≡ b)
writes_decided given out x y a b p q = (answer_decided x y _ p.answer q.answer, one_room a b _ p.room q.room)

abbrev read_back : {A : Type 0} → Read A → Result (A × Cursor) Refusal
read_back (took v n) = Ok (v, record { at = n })
read_back (stops e) = Err (refusal_back e)

read_undoes : {A : Type 0} → Undoes (read_told {A = A}) (read_back {A = A})
read_undoes (Ok (v, c)) = refl
read_undoes (Err e) = ap Err (refusal_undoes e)

-- every read at a place, of whatever is read there: `wire::Cursor::byte`, `wire::Cursor::low`, `wire::Cursor::high`, `wire::Cursor::guid`
pub read_decided : {A : Type 0} (x y : Result (A × Cursor) Refusal) (b : Read A) → read_told x ≡ b → read_told y ≡ b → x ≡ y
read_decided {A = A} = decided (read_told {A = A}) read_back read_undoes
