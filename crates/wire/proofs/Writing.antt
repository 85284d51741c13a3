-- Size, room, fill: what every writer answers and leaves in the room. A first pass finds the size, or a refusal that comes before the room's. Where the room
-- is shorter than the size, the answer is refusal 4 and the room stays (`sized-short`); where it is not, a second pass has put the bytes at the front of
-- the room (`sized-written`), as one run of stores or as a front part that comes back filled.
-- Assumes nothing.
use mathlib.Core.Path.{◌≡◌, refl, sym, ap, ◌∙◌}
use mathlib.Core.Bool.{Bool, true, false}
use mathlib.Core.List.{List, [], ◌++◌, append-nil}
use Prim.Native.Nat.{ℕ, ◌<◌, ◌≤◌}
use native.Mathlib.Omega.{arith}
use lib.Dec.{ltb}
use lib.ListN.{length, drop, drop_of_length-le}
use lib.Seq.{sets}
use borrow.Author.Tests.{lt-ltb, le-ltb, ltb-false}
use Rattle.lists.proofs.Front.{sets-front}
use Rattle.lists.proofs.Split.{clash}
use Rattle.format.specs.Answer.{Refusal, Answer, gives, refuses, room, refuse_if, fitted, wrote, room_after}
use Rattle.format.proofs.Answer.{no_gives}
use Rattle.wire.specs.Told.{Fitting}

-- what a call tells, and the room afterwards
abbrev pub Leaves : Answer ℕ → List ℕ → Answer (List ℕ) → List ℕ → Type 0
Leaves told new a out = (told ≡ wrote (fitted a (length out))) × (new ≡ room_after (fitted a (length out)) out)

-- ---- bytes of a known count

module _ (bytes out : List ℕ) where
  pub no_room : length out < length bytes → Leaves (refuses room) out (gives bytes) out
  unfolding fitted wrote room_after
  no_room h = let t = lt-ltb (length out) (length bytes) h in (rw t, rw t)

  pub has_room : (n : ℕ) → length bytes ≡ n → length bytes ≤ length out → Leaves (gives n) (bytes ++ drop (length bytes) out) (gives bytes) out
  unfolding fitted wrote room_after
  has_room n e h = let t = le-ltb (length out) (length bytes) h in (rw (t, e), rw t)

-- ---- an answer that has a count

-- is no refusal
pub not_refused : {P : Type 0} (e : Refusal) (n : ℕ) → gives n ≡ wrote (refuses e) → P
unfolding wrote
not_refused e n h = no_gives e n (sym h)

-- has passed its checks
pub check_passed : (b : Bool) (e : Refusal) (a : Answer (List ℕ)) (n : ℕ) → gives n ≡ wrote (refuse_if b e a) → refuse_if b e a ≡ a
check_passed true e a n h = not_refused e n h
check_passed false e a n h = refl

-- has the count of the bytes that it gives
pub count_is : (a : Answer (List ℕ)) (n : ℕ) (c : List ℕ) → gives n ≡ wrote a → a ≡ gives c → n ≡ length c
unfolding wrote
count_is a n c h e = let w = rw e at h in cc

-- An answered count fits the room: whoever called a writer may take that many bytes of the room's front.
pub count_fits : (a : Answer (List ℕ)) (n size : ℕ) → gives n ≡ wrote (fitted a size) → n ≤ size
unfolding fitted
count_fits (gives c) n size h = go (ltb size (length c)) refl (check_passed (ltb size (length c)) room (gives c) n h)
  where
    go : (b : Bool) → ltb size (length c) ≡ b → fitted (gives c) size ≡ gives c → n ≤ size
    go true t q = no_gives room c (rw t at q)
    go false t q = omega (arith, ltb-false size (length c) t, count_is (fitted (gives c) size) n c h q)
count_fits (refuses e) n size h = not_refused e n h

-- ---- between the two passes

-- a refusal that comes before the room is asked
pub refused_before : (a : Answer (List ℕ)) (out : List ℕ) (e : Refusal) → refuses e ≡ wrote a → Leaves (refuses e) out a out
unfolding fitted wrote room_after
refused_before (gives bytes) out e h = clash cc
refused_before (refuses d) out e h = (h, refl)

module _ (out : List ℕ) (n : ℕ) where
  -- the room is shorter
  pub sized-short : (a : Answer (List ℕ)) → gives n ≡ wrote a → length out < n → Leaves (refuses room) out a out
  sized-short (gives bytes) h k = no_room bytes out (omega (arith, count_is (gives bytes) n bytes h refl))
  sized-short (refuses d) h k = not_refused d n h

  -- the bytes fit
  pub sized_fits : (a : Answer (List ℕ)) → gives n ≡ wrote a → n ≤ length out → Fitting a (length out)
  sized_fits (gives b) h k = omega (arith, count_is (gives b) n b h refl)
  sized_fits (refuses d) h k = not_refused d n h

  -- they were written
  pub sized-written : (a : Answer (List ℕ)) (new : List ℕ) → gives n ≡ wrote a → n ≤ length out → new ≡ room_after a out → Leaves (gives n) new a out
  unfolding room_after
  sized-written (gives b) new h k w =
      let e = count_is (gives b) n b h refl in
      let p = has_room b out n (sym e) (omega arith) in
      (p.0, w ∙ p.1)
  sized-written (refuses d) new h k w = not_refused d n h

-- ---- what the second pass leaves

-- the bytes that an answer gives
abbrev pub given : Answer (List ℕ) → List ℕ
given (gives b) = b
given (refuses e) = []

pub fits_given : (a : Answer (List ℕ)) (n : ℕ) → Fitting a n → (a ≡ gives (given a)) × (length (given a) ≤ n)
fits_given (gives b) n h = (refl, h)
fits_given (refuses e) n h = absurd h

pub after-given : (a : Answer (List ℕ)) (out : List ℕ) → a ≡ gives (given a) → given a ++ drop (length (given a)) out ≡ room_after a out
unfolding room_after
after-given (gives b) out e = refl
after-given (refuses e) out q = no_gives e [] q

-- a front part of the room that comes back filled
pub front-filled : (a : Answer (List ℕ)) (out ys : List ℕ) (n : ℕ) → gives n ≡ wrote a → gives ys ≡ a → ys ++ drop n out ≡ room_after a out
unfolding room_after
front-filled a out ys n h e = rw (← e, count_is a n ys h (sym e))

-- one run of stores at the front
pub front_stored : (c out : List ℕ) → length c ≤ length out → sets out 0 c ≡ room_after (gives c) out
unfolding room_after
front_stored c out h = sets-front out c h

-- ---- a room that is filled to its last byte

behind_all : (out c : List ℕ) → length c ≡ length out → c ++ drop (length c) out ≡ c
behind_all out c e =
    let z : drop (length c) out ≡ [] = drop_of_length-le out {i = length c} (omega arith) in
    rw z (append-nil c)

-- by a writer that keeps what stands behind its bytes: nothing does
pub leaves_none : (a : Answer (List ℕ)) (out new : List ℕ) → gives (length out) ≡ wrote a → new ≡ room_after a out → gives new ≡ a
unfolding room_after
leaves_none (gives c) out new h r = ap gives (r ∙ behind_all out c (sym (count_is (gives c) (length out) c h refl)))
leaves_none (refuses e) out new h r = not_refused e (length out) h

-- by one run of stores
pub filled : (a : Answer (List ℕ)) (out new c : List ℕ) → gives (length out) ≡ wrote a → a ≡ gives c → new ≡ sets out 0 c → gives new ≡ a
filled a out new c h e s =
    let l = count_is a (length out) c h e in
    leaves_none a out new h (rw e (s ∙ front_stored c out (omega arith)))

-- by a copy
pub copied : (s out new : List ℕ) → gives (length out) ≡ wrote (gives s) → new ≡ s ++ drop (length s) out → gives new ≡ gives s
unfolding room_after
copied s out new h e = leaves_none (gives s) out new h e
