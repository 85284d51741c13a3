-- A whole value: what judging it says, and what joining it into room answers and leaves in the room.
-- Judging tells content by its count; that count is the walk's sum, and the chunks joined are as long as that.
-- Assumes nothing.
use Rattle.std.specs.Prelude.{None, Option, Some}
use mathlib.Core.Path.{◌≡◌, ap, sym, ◌∙◌}
use mathlib.Core.List.{List, ◌++◌}
use mathlib.Core.Bool.{Bool, true, false}
use Prim.Native.Nat.{ℕ, ◌+◌, ◌<◌, ◌≤◌}
use native.Mathlib.Omega.{arith}
use lib.ListN.{length, drop}
use lib.Dec.{ltb}
use borrow.Author.Tests.{lt-ltb, le-ltb}
use Rattle.format.specs.Answer.{Refusal, missing, room, gives, refuses, Read, took, stops, further, map_read, fitted_read, room_after_read}
use Rattle.format.specs.Plp.{Walk, Walked, walk_from, walk_chunks, joined, open_walk, read_plp, plp_copied, join_plp, room_after_join}
use Rattle.format.proofs.Place.{no_took, map-took, at_behind, at_inside}
use Rattle.format.proofs.Chunks.{join_sums}
use Rattle.format.proofs.Opening.{plp_null_lem, plp_stops, plp_walk, open_inside, stays_plp}
use Rattle.plp_join.specs.Told.{counted, IsContent, content_in}
use Rattle.plp.proofs.Heads.{walk_inside}

-- ---- judging

module _ (text : Bool) (s : List ℕ) where
  pub judge_null : (n : ℕ) → open_walk text s 0 ≡ took None n → map_read counted (read_plp text s) ≡ took None 8
  judge_null n h = ap (map_read counted) (plp_null_lem text s n h)

  pub judge_stops : (e : Refusal) → open_walk text s 0 ≡ stops e → map_read counted (read_plp text s) ≡ stops e
  judge_stops e h = ap (map_read counted) (plp_stops text s e h)

  module _ (w : Walk) (n : ℕ) (h : open_walk text s 0 ≡ took (Some w) n) where
    from_front : walk_chunks (length s + 1) s w ≡ walk_from (length s + 1) s w 0
    from_front = walk_inside (length s + 1) s w (open_inside text s w n h).0

    pub judge_content : (x : Walked) → walk_chunks (length s + 1) s w ≡ gives x → map_read counted (read_plp text s) ≡ took (Some x.walk.sum) x.walk.at
    judge_content x g =
        let e : walk_from (length s + 1) s w 0 ≡ gives x = sym from_front ∙ g in
        let z = (open_inside text s w n h).1 in
        let l : length (joined s w) ≡ x.walk.sum = omega (arith, join_sums s (length s + 1) w 0 x e) in
        ap (map_read counted) (plp_walk text s w n h (gives x) e) ∙ rw l

    pub judge_refused : (e : Refusal) → walk_chunks (length s + 1) s w ≡ refuses e → map_read counted (read_plp text s) ≡ stops e
    judge_refused e g = ap (map_read counted) (plp_walk text s w n h (refuses e) (sym from_front ∙ g))

-- ---- back from the count

pub counted-null : (r : Read (Option (List ℕ))) (n : ℕ) → map_read counted r ≡ took None n → r ≡ took None n
counted-null (took None m) n h = let q : m ≡ n = cc in ap (took None) q
counted-null (took (Some c) m) n h = let z : ◌≡◌ {A = ℕ} 0 1 = cc in absurd (omega arith)
counted-null (stops e) n h = no_took e None n h

pub counted-stops : (r : Read (Option (List ℕ))) (e : Refusal) → map_read counted r ≡ stops e → r ≡ stops e
counted-stops (took o m) e h = let z : ◌≡◌ {A = ℕ} 0 1 = cc in absurd (omega arith)
counted-stops (stops d) e h = let q : d ≡ e = cc in ap stops q

pub record Counted (r : Read (Option (List ℕ))) (m n : ℕ) : Type 0 where
  pub is : IsContent r
  pub content : r ≡ took (Some (content_in r)) n
  pub long : length (content_in r) ≡ m

pub counted-content : (r : Read (Option (List ℕ))) (m n : ℕ) → map_read counted r ≡ took (Some m) n → Counted r m n
counted-content (took None k) m n h = let z : ◌≡◌ {A = ℕ} 0 1 = cc in absurd (omega arith)
counted-content (took (Some c) k) m n h =
    let q : k ≡ n = cc in
    let l : length c ≡ m = cc in
    record { is = tt; content = ap (took (Some c)) q; long = l }
counted-content (stops e) m n h = no_took e (Some m) n h

-- ---- joining: the answer and the room, for a value r that was read behind a place

module _ (r : Read (Option (List ℕ))) (at : ℕ) (out : List ℕ) where
  abbrev read : Read (Option (List ℕ))
  read = fitted_read plp_copied (further at r) (length out)

  -- what a call answers, and what it leaves
  pub record Joins (answer : Read (Option ℕ)) (after : List ℕ) : Type 0 where
    pub answered : answer ≡ map_read counted read
    pub left : after ≡ room_after_read plp_copied read out

  pub joins_null : (n : ℕ) → map_read counted r ≡ took None n → Joins (took None (at + n)) out
  unfolding fitted_read room_after_read
  joins_null n h =
      let e = counted-null r n h in
      let t : ltb (length out) 0 ≡ false = le-ltb (length out) 0 (omega arith) in
      record { answered = rw (e, t); left = rw (e, t) }

  pub joins_stops : (e : Refusal) → map_read counted r ≡ stops e → Joins (stops e) out
  unfolding fitted_read room_after_read
  joins_stops e h = let q = counted-stops r e h in record { answered = rw q; left = rw q }

  module _ (m n : ℕ) (h : map_read counted r ≡ took (Some m) n) where
    pub joins_short : length out < m → Joins (stops room) out
    unfolding fitted_read room_after_read
    joins_short l =
        let c = counted-content r m n h in
        let t : ltb (length out) (length (content_in r)) ≡ true = lt-ltb (length out) (length (content_in r)) (omega (arith, c.long)) in
        record { answered = rw (c.content, t); left = rw (c.content, t) }

    pub joins_content : m ≤ length out → Joins (took (Some m) (at + n)) (content_in r ++ drop (length (content_in r)) out)
    unfolding fitted_read room_after_read
    joins_content l =
        let c = counted-content r m n h in
        let t : ltb (length out) (length (content_in r)) ≡ false = le-ltb (length out) (length (content_in r)) (omega (arith, c.long)) in
        record { answered = rw (c.content, t, c.long); left = rw (c.content, t) }

-- ---- at a place

-- what was judged ends inside
pub judged_inside : (text : Bool) (s : List ℕ) (o : Option ℕ) (n : ℕ) → map_read counted (read_plp text s) ≡ took o n → n ≤ length s
judged_inside text s o n h = let p = map-took counted (read_plp text s) o n h in stays_plp text s p.0 n p.1

module _ (text : Bool) (s : List ℕ) (at : ℕ) (out : List ℕ) where
  pub join_behind : length s < at → (stops missing ≡ map_read counted (join_plp text s at (length out))) × (out ≡ room_after_join text s at out)
  unfolding join_plp room_after_join fitted_read room_after_read
  join_behind h = let e = at_behind (read_plp text) s at h in (rw e, rw e)

  -- the rest of the input from the place on is what a join is given
  module _ (rest : List ℕ) (h : at ≤ length s) (r : rest ≡ drop at s) where
    pub join_inside : fitted_read plp_copied (further at (read_plp text rest)) (length out) ≡ join_plp text s at (length out)
    unfolding join_plp
    join_inside = rw r (sym (ap (λ (x : Read (Option (List ℕ))). fitted_read plp_copied x (length out)) (at_inside (read_plp text) s at h)))
