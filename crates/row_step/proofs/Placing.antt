-- One value more of a row that fits: the writer is lent the unused rest of the room, cannot be refused there, and its bytes stand at the place.
-- Why it holds: the rest is as long as the room less the place, and the bytes are no longer. What stands before the place was not lent, and what stands behind
-- the bytes the writer keeps.
-- Assumes nothing.
use mathlib.Core.Path.{◌≡◌, ap, ◌∙◌}
use mathlib.Core.List.{List}
use Prim.Native.Nat.{ℕ, ◌+◌, ◌-◌, ◌≤◌}
use native.Mathlib.Omega.{arith}
use lib.ListN.{length, length-drop}
use borrow.Author.Tests.{le-ltb}
use borrow.Rule.Slice.PartMut.{put_mid, mid_of}
use Rattle.lists.specs.Put.{put_at}
use Rattle.lists.proofs.Lent.{rest_is, lent_put}
use Rattle.format.specs.Answer.{Answer, gives, refuses, Refusal, fitted, wrote, room_after}
use Rattle.format.proofs.Answer.{no_gives}
use Rattle.row_step.specs.Steps.{FitsAt, bytes_in}

module _ (out : List ℕ) (at : ℕ) where
  -- the rest of the room
  abbrev rest : List ℕ
  rest = mid_of at (length out - at) out

  rest-length : length rest ≡ length out - at
  rest-length = ap length (rest_is out at) ∙ simp length-drop

  pub place_in : (a : Answer (List ℕ)) → FitsAt a at (length out) → at + length (bytes_in a) ≤ length out
  place_in (gives b) h = h
  place_in (refuses e) h = absurd h

  -- the writer has room
  pub has_place : (a : Answer (List ℕ)) → FitsAt a at (length out) → fitted a (length rest) ≡ gives (bytes_in a)
  unfolding fitted
  has_place (gives b) h = rw (le-ltb (length rest) (length b) (omega (arith, rest-length)))
  has_place (refuses e) h = absurd h

  module _ (a : Answer (List ℕ)) (h : FitsAt a at (length out)) where
    pub placed-count : (n : ℕ) → gives n ≡ wrote (fitted a (length rest)) → n ≡ length (bytes_in a)
    unfolding wrote
    placed-count n e = let w = rw (has_place a h) at e in cc

    pub placed-room : (last : List ℕ) → last ≡ room_after (fitted a (length rest)) rest → put_mid at (length out - at) out last ≡ put_at out at (bytes_in a)
    unfolding room_after
    placed-room last e = lent_put out last at (bytes_in a) (rw (has_place a h) at e)

    -- it is not refused
    pub not_placed : {P : Type 0} (e : Refusal) → refuses e ≡ wrote (fitted a (length rest)) → P
    unfolding wrote
    not_placed e q = no_gives e (length (bytes_in a)) (rw (has_place a h) at q)
