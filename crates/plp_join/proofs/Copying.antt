-- The copy of chunks that were judged: what one turn of it goes by.
-- A walk that came to its end says of the head at its place that it is zero, and nothing is left to join; or that its bytes are there, and what is left is
-- these bytes and what the walk behind them joins.
-- Assumes nothing.
use Rattle.std.specs.Prelude.{None, Option, Some}
use mathlib.Core.Path.{◌≡◌, refl, ap, sym, ◌∙◌}
use mathlib.Core.List.{List, [], ◌++◌}
use mathlib.Core.Bool.{Bool, false}
use Prim.Native.Nat.{ℕ, zero, suc, ◌+◌, ◌-◌, ◌<◌, ◌≤◌}
use native.Mathlib.Omega.{arith}
use lib.ListN.{length, take, drop, length-drop, length-append}
use lib.Seq.{length-take-le}
use Rattle.format.specs.Answer.{Read, took, stops, gives}
use Rattle.format.specs.Plp.{Walk, Walked, length_at, opened, walk_from, join_from, read_plp}
use Rattle.format.proofs.Answer.{no_truth}
use Rattle.format.proofs.Chunks.{Head, last, chunk, at_end, behind, walked, join_ended, join_head}
use Rattle.format.proofs.Opening.{plp_content}
use Rattle.plp_join.specs.Told.{IsContent, content_in}

-- a walk over s at a place, not at its end, that comes to its end; and what it joins
pub record Going (s : List ℕ) (at : ℕ) (left : List ℕ) : Type 0 where
  pub allowed : ℕ
  pub walk : Walk
  pub taken : ℕ
  pub end : Walked
  pub here : walk.at ≡ at
  pub unended : walk.ended ≡ false
  pub inside : at ≤ length s
  pub enough : length s < at + allowed
  pub walks : walk_from allowed s walk taken ≡ gives end
  pub joins : join_from allowed s walk ≡ left

-- what the head at the place is
pub data Turn (s : List ℕ) (at : ℕ) (left : List ℕ) : Type 0 where
  stop : at + 4 ≤ length s → length_at s at ≡ 0 → left ≡ [] → Turn s at left
  more : (n : ℕ) (rest : List ℕ) → at + 4 + n ≤ length s → length_at s at ≡ n → 0 < n
      → left ≡ take n (drop (at + 4) s) ++ rest → Going s (at + 4 + n) rest → Turn s at left

module _ (s left : List ℕ) (at : ℕ) where
  by_head : (a : ℕ) (w y : Walk) (k : ℕ) (x : Walked) → w.at ≡ at → w.ended ≡ false → length s < at + suc a
      → join_from (suc a) s w ≡ left → walk_from a s y (k + 1) ≡ gives x → Head s w y → Turn s at left
  by_head a w y k x p e b j g (last i z u o) =
      let q : w.at + 4 - (w.at + 4) ≡ 0 = omega arith in
      let f : join_from (suc a) s w ≡ [] = join_head s a w (at_end w) e (last i z u o) ∙ rw (q, join_ended s a (at_end w) refl) in
      let t : Turn s w.at left = stop i z (sym j ∙ f) in
      rw p at t
  by_head a w y k x p e b j g (chunk n i l c d v) =
      let q : w.at + 4 + n - (w.at + 4) ≡ n = omega arith in
      let f : join_from (suc a) s w ≡ take n (drop (w.at + 4) s) ++ join_from a s (behind w n) = join_head s a w (behind w n) e (chunk n i l c d v) ∙ rw q in
      let on : Going s (w.at + 4 + n) (join_from a s (behind w n)) =
      record {
        allowed = a;
        walk = behind w n;
        taken = k + 1;
        end = x;
        here = refl;
        unended = refl;
        inside = i;
        enough = omega arith;
        walks = g;
        joins = refl;
      } in
      let t : Turn s w.at left = more n (join_from a s (behind w n)) i l c (sym j ∙ f) on in
      rw p at t

  by_allowed : (a : ℕ) (w : Walk) (k : ℕ) (x : Walked) → w.at ≡ at → w.ended ≡ false → at ≤ length s → length s < at + a
      → walk_from a s w k ≡ gives x → join_from a s w ≡ left → Turn s at left
  by_allowed zero w k x p e i b h j = absurd (omega arith)
  by_allowed (suc a) w k x p e i b h j =
      walked s a w k x (λ t _. no_truth (sym e ∙ t)) (λ y _ f g. by_head a w y k x p e b j g f) h

  pub turn : Going s at left → Turn s at left
  turn g = by_allowed g.allowed g.walk g.taken g.end g.here g.unended g.inside g.enough g.walks g.joins

-- ---- as a loop over the place and the count copied meets it

module _ (s j : List ℕ) (o at n : ℕ) (e : n ≡ length_at s at) (b : o ≤ length j) (g : Going s at (drop o j)) where
  pub head_there : at + 4 ≤ length s
  head_there = go (turn s (drop o j) at g)
    where
      go : Turn s at (drop o j) → at + 4 ≤ length s
      go (stop i z l) = i
      go (more m rest i l p f h) = omega arith

  pub all_joined : n ≡ 0 → drop o j ≡ []
  all_joined z = go (turn s (drop o j) at g)
    where
      go : Turn s at (drop o j) → drop o j ≡ []
      go (stop i q l) = l
      go (more m rest i l p f h) = absurd (omega arith)

  pub record Copied : Type 0 where
    pub bytes : List ℕ
    pub rest : List ℕ
    pub there : at + 4 + n ≤ length s
    pub are : take n (drop (at + 4) s) ≡ bytes
    pub long : length bytes ≡ n
    pub joins : drop o j ≡ bytes ++ rest
    pub room : o + n ≤ length j
    pub on : Going s (at + 4 + n) rest

  pub copied : (n ≡ 0 → ⊥) → Copied
  copied z = go (turn s (drop o j) at g)
    where
      go : Turn s at (drop o j) → Copied
      go (stop i q l) = absurd (z (e ∙ q))
      go (more m rest i l p f h) =
          let q : m ≡ n = sym l ∙ sym e in
          let c = take m (drop (at + 4) s) in
          let k : length c ≡ m = length-take-le m (drop (at + 4) s) (omega (arith, length-drop (at + 4) s)) in
          record {
            bytes = c;
            rest = rest;
            there = omega arith;
            are = rw q;
            long = k ∙ q;
            joins = f;
            room = omega (arith, length-drop o j, length-append c rest, ap length f);
            on = rw q at h;
          }

-- ---- where the copy starts

abbrev of_content : (r : Read (Option (List ℕ))) → IsContent r → (n : ℕ) × (r ≡ took (Some (content_in r)) n)
of_content (took None n) i = absurd i
of_content (took (Some c) n) i = (n, refl)
of_content (stops e) i = absurd i

pub starts : (text : Bool) (s : List ℕ) → IsContent (read_plp text s) → Going s 8 (content_in (read_plp text s))
starts text s i =
    let p = of_content (read_plp text s) i in
    let c = plp_content text s (content_in (read_plp text s)) p.0 p.1 in
    record {
      allowed = length s + 1;
      walk = opened c.total text;
      taken = 0;
      end = c.end;
      here = refl;
      unended = refl;
      inside = c.behind;
      enough = omega arith;
      walks = c.walks;
      joins = c.joins;
    }
