-- The chunk walk: what one head is, what a walk keeps, that it ends, and that it sums what is joined.
--   Head s w x: the walk w takes a head of s and stands at x. One constructor for each way: the last zero, and a chunk.
--   walk_keeps: what every head keeps, a walk keeps.
--   walk_ends:  an allowance of more heads than the input has bytes is never the reason that a walk stops.
--   join_sums:  the joined content is as long as the sum says.
-- Assumes nothing.
use mathlib.Core.Path.{◌≡◌, refl, ap}
use mathlib.Core.List.{List, []}
use mathlib.Core.Bool.{true, false}
use Prim.Native.Nat.{ℕ, zero, suc, ◌+◌, ◌-◌, ◌<◌, ◌≤◌}
use native.Mathlib.Omega.{arith}
use lib.ListN.{length, take, drop, length-append, length-drop}
use lib.Seq.{length-take-le}
use lib.Dec.{ltb, eqb}
use borrow.Author.Tests.{le-ltb, ltb-false, eqb-true, eqb-false, ne_eqb}
use Rattle.lists.proofs.Split.{split}
use Rattle.format.specs.Answer.{missing, long, sequence, Answer, gives, refuses}
use Rattle.format.specs.Plp.{plp_bound, Walk, above_total, unlike_total, is_odd, end_of, chunk_of, length_at, take_head, Walked, on_head, walk_from}
use Rattle.format.specs.Plp.{on_join, join_from}
use Rattle.format.proofs.Answer.{no_gives, passed}

-- ---- one head

-- where the last zero leaves a walk, and where a chunk of n bytes does
abbrev pub at_end : Walk → Walk
at_end w = record { at = w.at + 4; sum = w.sum; total = w.total; text = w.text; ended = true }

abbrev pub behind : Walk → ℕ → Walk
behind w n = record { at = w.at + 4 + n; sum = w.sum + n; total = w.total; text = w.text; ended = false }

pub data Head (s : List ℕ) (w : Walk) : Walk → Type 0 where
  last : w.at + 4 ≤ length s → length_at s w.at ≡ 0 → unlike_total w.total w.sum ≡ false → is_odd w.text w.sum ≡ false → Head s w (at_end w)
  chunk : (n : ℕ) → w.at + 4 + n ≤ length s → length_at s w.at ≡ n → 0 < n → w.sum + n ≤ plp_bound →
      above_total w.total (w.sum + n) ≡ false → Head s w (behind w n)

module _ (s : List ℕ) (w : Walk) where
  is : {x y : Walk} → Head s w x → gives x ≡ gives y → Head s w y
  is {x} {y} h e = let p : x ≡ y = cc in rw (← p) h

  took-last : (x : Walk) → w.at + 4 ≤ length s → length_at s w.at ≡ 0 → end_of w ≡ gives x → Head s w x
  unfolding end_of
  took-last x i z h =
      let p = passed (unlike_total w.total w.sum) sequence _ x h in
      let q = passed (is_odd w.text w.sum) sequence _ x p.1 in
      is (last i z p.0 q.0) q.1

  took-chunk : (x : Walk) → (length_at s w.at ≡ 0 → ⊥) → chunk_of s w (length_at s w.at) ≡ gives x → Head s w x
  unfolding chunk_of
  took-chunk x z h =
      let n = length_at s w.at in
      let p = passed (ltb plp_bound (w.sum + n)) long _ x h in
      let q = passed (above_total w.total (w.sum + n)) sequence _ x p.1 in
      let r = passed (ltb (length s) (w.at + 4 + n)) missing _ x q.1 in
      is (chunk n (ltb-false (length s) (w.at + 4 + n) r.0) refl (omega (arith, z)) (ltb-false plp_bound (w.sum + n) p.0) q.0) r.1

  -- a head that was taken is one of the two
  pub head_took : (x : Walk) → take_head s w ≡ gives x → Head s w x
  unfolding take_head
  head_took x h =
      let p = passed (ltb (length s) (w.at + 4)) missing _ x h in
      let i : w.at + 4 ≤ length s = ltb-false (length s) (w.at + 4) p.0 in
      split (eqb (length_at s w.at) 0)
      (λ z e. took-last x i (eqb-true (length_at s w.at) 0 z) e)
      (λ z e. took-chunk x (eqb-false (length_at s w.at) 0 z) e)
      p.1

  -- and the other way round
  pub head_takes : (x : Walk) → Head s w x → take_head s w ≡ gives x
  unfolding take_head end_of chunk_of
  head_takes x (last i z u o) =
      let t : ltb (length s) (w.at + 4) ≡ false = le-ltb (length s) (w.at + 4) i in
      rw (t, z, u, o)
  head_takes x (chunk n i l p b a) =
      let t : ltb (length s) (w.at + 4) ≡ false = le-ltb (length s) (w.at + 4) (omega arith) in
      let z : eqb n 0 ≡ false = ne_eqb n 0 (λ e. omega arith) in
      let c : ltb plp_bound (w.sum + n) ≡ false = le-ltb plp_bound (w.sum + n) b in
      let d : ltb (length s) (w.at + 4 + n) ≡ false = le-ltb (length s) (w.at + 4 + n) i in
      rw (t, l, z, c, a, d)

-- a head costs four bytes, and its chunk's bytes are in the sum
pub record Moved (s : List ℕ) (w x : Walk) : Type 0 where
  pub low : w.at + 4 ≤ x.at
  pub high : x.at ≤ length s
  pub sums : x.sum + (w.at + 4) ≡ w.sum + x.at

pub moved : (s : List ℕ) (w x : Walk) → Head s w x → Moved s w x
moved s w x (last i z u o) = record { low = omega arith; high = i; sums = refl }
moved s w x (chunk n i l p b a) = record { low = omega arith; high = i; sums = omega arith }

-- ---- a walk

abbrev standing : Walk → ℕ → Walked
standing w k = record { walk = w; taken = k }

same_walk : (w : Walk) (k : ℕ) (x : Walked) → gives (standing w k) ≡ gives x → w ≡ x.walk
same_walk w k x h = let e : standing w k ≡ x = cc in ap (λ (y : Walked). y.walk) e

module _ (s : List ℕ) where
  -- a walk at its end changes nothing, whatever it is allowed
  pub walk-ended : (a : ℕ) (w : Walk) (k : ℕ) → w.ended ≡ true → walk_from a s w k ≡ gives (standing w k)
  unfolding walk_from
  walk-ended zero w k e = refl
  walk-ended (suc a) w k e = rw e

  pub join_ended : (a : ℕ) (w : Walk) → w.ended ≡ true → join_from a s w ≡ []
  unfolding join_from
  join_ended zero w e = refl
  join_ended (suc a) w e = rw e

  -- one head more
  pub walk_head : (a : ℕ) (w x : Walk) (k : ℕ) → w.ended ≡ false → Head s w x → walk_from (suc a) s w k ≡ walk_from a s x (k + 1)
  unfolding walk_from
  walk_head a w x k e h = rw (head_takes s w x h, e)

  pub join_head : (a : ℕ) (w x : Walk) → w.ended ≡ false → Head s w x → join_from (suc a) s w ≡ on_join s w (join_from a s) (gives x)
  unfolding join_from
  join_head a w x e h = rw (head_takes s w x h, e)

  -- what a walk of one head and more came to: it stood at its end, or it took a head
  pub walked : {P : Type 0} (a : ℕ) (w : Walk) (k : ℕ) (x : Walked) →
      (w.ended ≡ true → w ≡ x.walk → P) →
      ((y : Walk) → w.ended ≡ false → Head s w y → walk_from a s y (k + 1) ≡ gives x → P) →
      walk_from (suc a) s w k ≡ gives x → P
  unfolding walk_from
  walked {P} a w k x f g h = split w.ended (λ e q. f e (same_walk w k x q)) (λ e q. go e (take_head s w) refl q) h
    where
      go : w.ended ≡ false → (t : Answer Walk) → take_head s w ≡ t → on_head (walk_from a s) k t ≡ gives x → P
      go e (gives y) t q = g y e (head_took s w y t) q
      go e (refuses r) t q = no_gives r x q

  -- what every head keeps, a walk keeps
  module _ (P : Walk → Type 0) (keeps : (w x : Walk) → Head s w x → P w → P x) where
    pub walk_keeps : (a : ℕ) (w : Walk) (k : ℕ) (x : Walked) → walk_from a s w k ≡ gives x → P w → P x.walk
    unfolding walk_from
    walk_keeps zero w k x h p = rw (← same_walk w k x h) p
    walk_keeps (suc a) w k x h p =
        walked a w k x (λ e q. rw (← q) p) (λ y e f q. walk_keeps a y (k + 1) x q (keeps w y f p)) h

  pub walk_ends : (a : ℕ) (w : Walk) (k : ℕ) (x : Walked) → w.at ≤ length s → length s < w.at + a → walk_from a s w k ≡ gives x → x.walk.ended ≡ true
  unfolding walk_from
  walk_ends zero w k x i b h = absurd (omega arith)
  walk_ends (suc a) w k x i b h =
      walked a w k x (λ e q. rw (← q) e)
      (λ y e f q. let m = moved s w y f in walk_ends a y (k + 1) x m.high (omega arith) q)
      h

  -- ---- the joined chunks

  -- a head adds as many bytes to the join as to the sum
  head_sums : (w x : Walk) (go : Walk → List ℕ) → Moved s w x → w.sum + length (on_join s w go (gives x)) ≡ x.sum + length (go x)
  head_sums w x go m =
      let c = take (x.at - (w.at + 4)) (drop (w.at + 4) s) in
      let l : length c ≡ x.at - (w.at + 4) = length-take-le (x.at - (w.at + 4)) (drop (w.at + 4) s) (simp length-drop (omega arith)) in
      omega (arith, l, length-append c (go x))

  pub join_sums : (a : ℕ) (w : Walk) (k : ℕ) (x : Walked) → walk_from a s w k ≡ gives x → w.sum + length (join_from a s w) ≡ x.walk.sum
  unfolding walk_from join_from
  join_sums zero w k x h = let q = ap (λ (y : Walk). y.sum) (same_walk w k x h) in omega arith
  join_sums (suc a) w k x h =
      walked a w k x
      (λ e q. let l = ap length (join_ended (suc a) w e) in let r = ap (λ (y : Walk). y.sum) q in omega arith)
      (λ y e f q. omega (arith, ap length (join_head a w y e f), head_sums w y (join_from a s) (moved s w y f), join_sums a y (k + 1) x q))
      h
