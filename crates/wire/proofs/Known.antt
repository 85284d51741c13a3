-- A number is known exactly where it is listed.
-- Assumes nothing.
use mathlib.Core.Path.{◌≡◌, refl}
use mathlib.Core.List.{List}
use mathlib.Core.Bool.{Bool, true, false}
use Prim.Native.Nat.{ℕ}
use Rattle.lists.proofs.Split.{clash}
use Rattle.lists.specs.Pick.{pick}
use Rattle.format.specs.Answer.{Refusal, gives, refuses, unknown}
use Rattle.format.specs.Header.{listed}
use Rattle.wire.specs.Told.{known}

by_list : (b : Bool) (m n : ℕ) → gives m ≡ pick b (gives n) (refuses unknown) → (b ≡ true) × (m ≡ n)
by_list true m n h = (refl, cc)
by_list false m n h = clash cc

pub known-gives : (list : List ℕ) (m n : ℕ) → gives m ≡ known list n → (listed list n ≡ true) × (m ≡ n)
unfolding known
known-gives list m n h = by_list (listed list n) m n h

not_in_list : (b : Bool) (n : ℕ) (e : Refusal) → refuses e ≡ pick b (gives n) (refuses unknown) → (b ≡ false) × (e ≡ unknown)
not_in_list true n e h = clash cc
not_in_list false n e h = (refl, cc)

-- and where it is not, the refusal is 2
pub known-refused : (list : List ℕ) (n : ℕ) (e : Refusal) → refuses e ≡ known list n → (listed list n ≡ false) × (e ≡ unknown)
unfolding known
known-refused list n e h = not_in_list (listed list n) n e h
