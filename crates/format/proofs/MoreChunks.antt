-- The same of the chunk walk and of a PLP value: an answer other than refusal 1 does not change when more bytes follow.
-- A head and its chunk are asked for before they are passed, so a walk goes by bytes that are there. A whole value allows more heads than its input has bytes:
-- with more bytes it is allowed more, and a walk that came to its end, or to a refusal, takes no more heads for that.
-- Assumes nothing.
use mathlib.Core.Path.{◌≡◌, refl, ap, sym, ◌∙◌}
use mathlib.Core.List.{List, [], ◌++◌}
use mathlib.Core.Bool.{Bool, true, false}
use Prim.Native.Nat.{ℕ, zero, suc, ◌+◌, ◌-◌, ◌≤◌}
use native.Mathlib.Nat.{zero-add, suc-add}
use native.Mathlib.Omega.{arith}
use lib.ListN.{length, take, drop, length-append, length-drop}
use lib.Seq.{take-append-le, drop-append-le}
use lib.Dec.{ltb, eqb}
use borrow.Author.Tests.{le-ltb, ltb-false}
use Rattle.lists.specs.Pick.{pick}
use Rattle.format.specs.Answer.{missing, Answer, gives, refuses, refuse_if, Read, took, stops}
use Rattle.format.specs.Number.{low_nat, read_low}
use Rattle.format.specs.Plp.{plp_bound, PlpHead, is_null, chunked, head_of, read_plp_head, Walk, Walked, above_total, end_of, chunk_of, length_at, take_head}
use Rattle.format.specs.Plp.{on_head, walk_from, walk_chunks, join_from, opened, joined_of, read_chunks, read_plp}
use Rattle.format.proofs.Answer.{no_gives}
use Rattle.format.proofs.Chunks.{Head, last, chunk, moved, walked, walk-ended, walk_ends, join_head, join_ended}
use Rattle.format.proofs.Plp.{eight}
use Rattle.format.proofs.Opening.{stays_plp}
use Rattle.format.proofs.More.{Steady, Streams, stream_low, steady_none, steady_then}

abbrev pub SteadyAnswer : {A : Type 0} → (List ℕ → Answer A) → Type 0
SteadyAnswer {A} f = (s more : List ℕ) → (f s ≡ refuses missing → ⊥) → f (s ++ more) ≡ f s

-- ---- one head

module _ (s more : List ℕ) where
  -- a part that is there
  part_there : (at n : ℕ) → at + n ≤ length s → take n (drop at (s ++ more)) ≡ take n (drop at s)
  part_there at n h =
      let d : drop at (s ++ more) ≡ drop at s ++ more = drop-append-le at s more (omega arith) in
      ap (take n) d ∙ take-append-le n (drop at s) more (omega (arith, length-drop at s))

  length_there : (at : ℕ) → at + 4 ≤ length s → length_at (s ++ more) at ≡ length_at s at
  length_there at h = ap low_nat (part_there at 4 h)

  still_inside : (n : ℕ) → n ≤ length s → ltb (length (s ++ more)) n ≡ false
  still_inside n h = le-ltb (length (s ++ more)) n (omega (arith, length-append s more))

  -- a test for bytes that are there, before an answer that is steady
  asked : {A : Type 0} (n : ℕ) (x y : Answer A) → (n ≤ length s → (x ≡ refuses missing → ⊥) → y ≡ x)
      → (refuse_if (ltb (length s) n) missing x ≡ refuses missing → ⊥)
      → refuse_if (ltb (length (s ++ more)) n) missing y ≡ refuse_if (ltb (length s) n) missing x
  asked {A} n x y p h = go (ltb (length s) n) refl
    where
      go : (b : Bool) → ltb (length s) n ≡ b → refuse_if (ltb (length (s ++ more)) n) missing y ≡ refuse_if (ltb (length s) n) missing x
      go true t = absurd (h (rw t))
      go false t =
          let i = ltb-false (length s) n t in
          let e : y ≡ x = p i (λ z. h (rw t z)) in
          rw (t, still_inside n i, e)

  -- a test that does not look at the bytes
  by_test : {A : Type 0} (b : Bool) (x x' y y' : Answer A) → ((x ≡ refuses missing → ⊥) → x' ≡ x) → ((y ≡ refuses missing → ⊥) → y' ≡ y)
      → (pick b x y ≡ refuses missing → ⊥) → pick b x' y' ≡ pick b x y
  by_test true x x' y y' p q h = p h
  by_test false x x' y y' p q h = q h

  steady_chunk : (w : Walk) (n : ℕ) → (chunk_of s w n ≡ refuses missing → ⊥) → chunk_of (s ++ more) w n ≡ chunk_of s w n
  unfolding chunk_of
  steady_chunk w n =
      by_test (ltb plp_bound (w.sum + n)) _ _ _ _ (λ _. refl)
      (by_test (above_total w.total (w.sum + n)) _ _ _ _ (λ _. refl)
      (asked (w.at + 4 + n) _ _ (λ _ _. refl)))

  steady_head : (w : Walk) → (take_head s w ≡ refuses missing → ⊥) → take_head (s ++ more) w ≡ take_head s w
  unfolding take_head
  steady_head w = asked (w.at + 4) _ _ there
    where
      there : w.at + 4 ≤ length s →
          (pick (eqb (length_at s w.at) 0) (end_of w) (chunk_of s w (length_at s w.at)) ≡ refuses missing → ⊥) →
          pick (eqb (length_at (s ++ more) w.at) 0) (end_of w) (chunk_of (s ++ more) w (length_at (s ++ more) w.at))
          ≡ pick (eqb (length_at s w.at) 0) (end_of w) (chunk_of s w (length_at s w.at))
      there i = rw (length_there w.at i) (by_test (eqb (length_at s w.at) 0) _ _ _ _ (λ _. refl) (steady_chunk w (length_at s w.at)))

-- ---- a walk

module _ (s more : List ℕ) where
  on_head_lem : (go go' : Walk → ℕ → Answer Walked) (k : ℕ) → ((x : Walk) → (go x (k + 1) ≡ refuses missing → ⊥) → go' x (k + 1) ≡ go x (k + 1))
      → (t : Answer Walk) → (on_head go k t ≡ refuses missing → ⊥) → on_head go' k t ≡ on_head go k t
  on_head_lem go go' k p (gives x) h = p x h
  on_head_lem go go' k p (refuses e) h = refl

  one_more : (a : ℕ) → ((x : Walk) (k : ℕ) → (walk_from a s x k ≡ refuses missing → ⊥) → walk_from a (s ++ more) x k ≡ walk_from a s x k)
      → (w : Walk) (k : ℕ) → (on_head (walk_from a s) k (take_head s w) ≡ refuses missing → ⊥)
      → on_head (walk_from a (s ++ more)) k (take_head (s ++ more) w) ≡ on_head (walk_from a s) k (take_head s w)
  one_more a ih w k g =
      let e = steady_head s more w (λ z. g (ap (on_head (walk_from a s) k) z)) in
      ap (on_head (walk_from a (s ++ more)) k) e ∙ on_head_lem (walk_from a s) (walk_from a (s ++ more)) k (λ x. ih x (k + 1)) (take_head s w) g

  pub steady_from : (a : ℕ) (w : Walk) (k : ℕ) → (walk_from a s w k ≡ refuses missing → ⊥) → walk_from a (s ++ more) w k ≡ walk_from a s w k
  unfolding walk_from
  steady_from zero w k h = refl
  steady_from (suc a) w k h = by_test s more w.ended _ _ _ _ (λ _. refl) (one_more a (steady_from a) w k) h

-- `walk_chunks` from any state, with any allowance
pub steady_walk : (allowed : ℕ) (w : Walk) → SteadyAnswer (λ (s : List ℕ). walk_chunks allowed s w)
unfolding walk_chunks
steady_walk allowed w s more = asked s more w.at _ _ (λ _. steady_from s more allowed w 0)

-- ---- a larger allowance

-- a walk that did not stop for want of allowance
abbrev Settled : Answer Walked → Type 0
Settled (gives x) = x.walk.ended ≡ true
Settled (refuses e) = Unit {0}

module _ (s : List ℕ) where
  settled_head : (go go' : Walk → ℕ → Answer Walked) (k : ℕ) → ((x : Walk) → Settled (go x (k + 1)) → go' x (k + 1) ≡ go x (k + 1))
      → (t : Answer Walk) → Settled (on_head go k t) → on_head go' k t ≡ on_head go k t
  settled_head go go' k p (gives x) h = p x h
  settled_head go go' k p (refuses e) h = refl

  settled_pick : (b : Bool) (x y y' : Answer Walked) → (Settled y → y' ≡ y) → Settled (pick b x y) → pick b x y' ≡ pick b x y
  settled_pick true x y y' p h = refl
  settled_pick false x y y' p h = p h

  settled_more : (a b : ℕ) (w : Walk) (k : ℕ) → Settled (walk_from a s w k) → walk_from (a + b) s w k ≡ walk_from a s w k
  unfolding walk_from
  settled_more zero b w k h = rw (zero-add b) (walk-ended s b w k h)
  settled_more (suc a) b w k h =
      rw (suc-add a b)
      (settled_pick w.ended _ _ _ (settled_head (walk_from a s) (walk_from (a + b) s) k (λ x. settled_more a b x (k + 1)) (take_head s w)) h)

  -- as many heads as there could be
  settled : (w : Walk) → w.at ≤ length s → (r : Answer Walked) → walk_from (length s + 1) s w 0 ≡ r → Settled r
  settled w i (gives x) h = walk_ends s (length s + 1) w 0 x i (omega arith) h
  settled w i (refuses e) h = tt

-- ---- what is joined

module _ (s more : List ℕ) where
  -- a head that was taken is there with more bytes too
  head_grows : (w x : Walk) → Head s w x → Head (s ++ more) w x
  head_grows w x (last i z u o) = last (omega (arith, length-append s more)) (length_there s more w.at i ∙ z) u o
  head_grows w x (chunk n i l p b t) =
      chunk n (omega (arith, length-append s more)) (length_there s more w.at (omega arith) ∙ l) p b t

  joins_more : (a b : ℕ) (w : Walk) (k : ℕ) (x : Walked) → walk_from a s w k ≡ gives x → x.walk.ended ≡ true → join_from (a + b) (s ++ more) w ≡ join_from a s w
  unfolding walk_from
  joins_more zero b w k x h d =
      let e : record { walk = w; taken = k } ≡ x = cc in
      let q : w.ended ≡ true = ap (λ (y : Walked). y.walk.ended) e ∙ d in
      join_ended (s ++ more) (0 + b) w q ∙ sym (join_ended s 0 w q)
  joins_more (suc a) b w k x h d =
      walked s a w k x
      (λ e q. join_ended (s ++ more) (suc a + b) w e ∙ sym (join_ended s (suc a) w e))
      (λ y e f q.
      let m = moved s w y f in
      let p : take (y.at - (w.at + 4)) (drop (w.at + 4) (s ++ more)) ≡ take (y.at - (w.at + 4)) (drop (w.at + 4) s) =
      part_there s more (w.at + 4) (y.at - (w.at + 4)) (omega arith) in
      let g : join_from (a + b) (s ++ more) y ≡ join_from a s y = joins_more a b y (k + 1) x q d in
      rw (suc-add a b) (join_head (s ++ more) (a + b) w y e (head_grows w y f) ∙ (rw (p, g) (sym (join_head s a w y e f)))))
      h

-- ---- a PLP value

pub steady_plp_head : Steady read_plp_head
unfolding read_plp_head
steady_plp_head = steady_then (read_low 8) head_of (stream_low 8).stays (stream_low 8).steady (λ n. steady_none (head_of n []))

module _ (text : Bool) (s more : List ℕ) where
  more_heads : length (s ++ more) + 1 ≡ length s + 1 + length more
  more_heads = omega (arith, length-append s more)

  module _ (w : Walk) (i : w.at ≤ length s) where
    -- the walk over the whole value, with more bytes behind it
    whole : (r : Answer Walked) → walk_from (length s + 1) s w 0 ≡ r → (r ≡ refuses missing → ⊥) → walk_from (length (s ++ more) + 1) (s ++ more) w 0 ≡ r
    whole r e h =
        let g : walk_from (length s + 1) (s ++ more) w 0 ≡ r = steady_from s more (length s + 1) w 0 (λ z. h (sym e ∙ z)) ∙ e in
        let d : Settled (walk_from (length s + 1) (s ++ more) w 0) = rw g (settled s w i r e) in
        rw more_heads (settled_more (s ++ more) (length s + 1) (length more) w 0 d ∙ g)

    steady_joined : (r : Answer Walked) → walk_from (length s + 1) s w 0 ≡ r → (joined_of s w r ≡ stops missing → ⊥)
        → joined_of (s ++ more) w (walk_from (length (s ++ more) + 1) (s ++ more) w 0) ≡ joined_of s w r
    steady_joined (gives x) e h =
        let g = whole (gives x) e (λ z. no_gives missing x (sym z)) in
        let j : join_from (length (s ++ more) + 1) (s ++ more) w ≡ join_from (length s + 1) s w =
        rw more_heads (joins_more s more (length s + 1) (length more) w 0 x e (settled s w i (gives x) e)) in
        rw (g, j)
    steady_joined (refuses d) e h = rw (whole (refuses d) e (λ z. h (ap (joined_of s w) z)))

  steady_chunks : (r : Read PlpHead) → read_plp_head s ≡ r → (read_chunks text s r ≡ stops missing → ⊥) → read_chunks text (s ++ more) r ≡ read_chunks text s r
  steady_chunks (took is_null n) e h = refl
  steady_chunks (took (chunked total) n) e h =
      steady_joined (opened total text) (eight s (chunked total) n e).1 (walk_from (length s + 1) s (opened total text) 0) refl h
  steady_chunks (stops d) e h = refl

pub steady_plp : (text : Bool) → Steady (read_plp text)
unfolding read_plp
steady_plp text s more h =
    let e = steady_plp_head s more (λ z. h (ap (read_chunks text s) z)) in
    ap (read_chunks text (s ++ more)) e ∙ steady_chunks text s more (read_plp_head s) refl h

pub stream_plp : (text : Bool) → Streams (read_plp text)
stream_plp text = record { stays = stays_plp text; steady = steady_plp text }
