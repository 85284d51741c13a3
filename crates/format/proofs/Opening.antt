-- Opening a walk, and what a PLP value that was read is.
--   open-head:   a walk opened at a place goes by the eight bytes there, and stands behind them.
--   plp_content: content that was read is the chunks joined behind eight bytes, by a walk that came to its end.
-- Assumes nothing.
use Rattle.std.specs.Prelude.{None, Option, Some}
use mathlib.Core.Path.{◌≡◌, refl, ap, sym, ◌∙◌}
use mathlib.Core.List.{List}
use mathlib.Core.Bool.{Bool, false}
use Prim.Native.Nat.{ℕ, ◌+◌, ◌≤◌}
use native.Mathlib.Nat.{zero-add, add-zero}
use native.Mathlib.Omega.{arith}
use lib.ListN.{length, drop}
use Rattle.format.specs.Answer.{Refusal, Answer, gives, refuses, Read, took, stops, further, read_at}
use Rattle.format.specs.Number.{read_low}
use Rattle.format.specs.Plp.{PlpHead, is_null, chunked, head_of, read_plp_head, Walk, Walked, walk_from, joined, opened, opened_at, walk_behind, open_walk}
use Rattle.format.specs.Plp.{joined_of, read_chunks, read_plp}
use Rattle.format.proofs.Place.{Stays, no_took, stays_low, at_inside, at_then, at_then_stops, next_inside}
use Rattle.format.proofs.Chunks.{walk_keeps, moved}
use Rattle.format.proofs.Plp.{eight}

-- reading at the front is reading
pub at_front : {A : Type 0} (reader : List ℕ → Read A) (s : List ℕ) → read_at reader s 0 ≡ reader s
at_front {A} reader s = at_inside reader s 0 (omega arith) ∙ same (reader s)
  where
    same : (r : Read A) → further 0 r ≡ r
    same (took v n) = ap (took v) (zero-add n)
    same (stops e) = refl

-- ---- the eight bytes at a place

module _ (text : Bool) (s : List ℕ) (at n next : ℕ) (h : read_at (read_low 8) s at ≡ took n next) where
  -- by what the number that they are says
  head_at_lem : (r : Read PlpHead) → head_of n (drop next s) ≡ r → read_at read_plp_head s at ≡ further next r
  unfolding read_plp_head
  head_at_lem r e =
      let i = next_inside (read_low 8) s at (stays_low 8) n next h in
      at_then (read_low 8) head_of s at (stays_low 8) n next h ∙ (at_inside (head_of n) s next i.1 ∙ ap (further next) e)

  pub open_null : head_of n (drop next s) ≡ took is_null 0 → open_walk text s at ≡ took None next
  unfolding open_walk
  open_null e = ap (walk_behind text) (head_at_lem (took is_null 0) e) ∙ ap (took None) (add-zero next)

  pub open_chunked : (total : Option ℕ) → head_of n (drop next s) ≡ took (chunked total) 0 → open_walk text s at ≡ took (Some (opened_at total text next)) next
  unfolding open_walk
  open_chunked total e = ap (walk_behind text) (head_at_lem (took (chunked total) 0) e) ∙ rw (add-zero next)

  pub open_refused : (e : Refusal) → head_of n (drop next s) ≡ stops e → open_walk text s at ≡ stops e
  unfolding open_walk
  open_refused e q = ap (walk_behind text) (head_at_lem (stops e) q)

pub open_missing : (text : Bool) (s : List ℕ) (at : ℕ) (e : Refusal) → read_at (read_low 8) s at ≡ stops e → open_walk text s at ≡ stops e
unfolding open_walk read_plp_head
open_missing text s at e h = ap (walk_behind text) (at_then_stops (read_low 8) head_of s at e h)

-- ---- a whole value: a walk opened at the front, and its chunks

module _ (text : Bool) (s : List ℕ) where
  front : open_walk text s 0 ≡ walk_behind text (read_plp_head s)
  unfolding open_walk
  front = ap (walk_behind text) (at_front read_plp_head s)

  -- what was opened says which eight bytes there are
  null-behind : (h : Read PlpHead) (n : ℕ) → read_plp_head s ≡ h → walk_behind text h ≡ took None n → read_plp_head s ≡ took is_null 8
  null-behind (took is_null m) n p e = p ∙ ap (took is_null) (eight s is_null m p).0
  null-behind (took (chunked total) m) n p e = let z : Some (opened_at total text m) ≡ None = cc in absurd_some z
    where
      absurd_some : {P : Type 0} {w : Walk} → Some w ≡ None → P
      absurd_some h = let z : ◌≡◌ {A = ℕ} 0 1 = cc in absurd (omega arith)
  null-behind (stops r) n p e = no_took r None n e

  walk_behind_lem : (h : Read PlpHead) (w : Walk) (n : ℕ) → read_plp_head s ≡ h → walk_behind text h ≡ took (Some w) n
      → (total : Option ℕ) × (read_plp_head s ≡ took (chunked total) 8) × (opened total text ≡ w)
  walk_behind_lem (took is_null m) w n p e = let z : ◌≡◌ {A = Option Walk} None (Some w) = cc in absurd_none z
    where
      absurd_none : {P : Type 0} {w : Walk} → None ≡ Some w → P
      absurd_none h = let z : ◌≡◌ {A = ℕ} 0 1 = cc in absurd (omega arith)
  walk_behind_lem (took (chunked total) m) w n p e =
      let i = (eight s (chunked total) m p).0 in
      let q : opened_at total text m ≡ w = cc in
      (total, p ∙ ap (took (chunked total)) i, ap (opened_at total text) (sym i) ∙ q)
  walk_behind_lem (stops r) w n p e = no_took r (Some w) n e

  stop_behind_lem : (h : Read PlpHead) (r : Refusal) → walk_behind text h ≡ stops r → h ≡ stops r
  stop_behind_lem (took is_null m) r e = let z : ◌≡◌ {A = ℕ} 0 1 = cc in absurd (omega arith)
  stop_behind_lem (took (chunked total) m) r e = let z : ◌≡◌ {A = ℕ} 0 1 = cc in absurd (omega arith)
  stop_behind_lem (stops d) r e = let q : d ≡ r = cc in ap stops q

  -- null; no value; a walk
  pub plp_null_lem : (n : ℕ) → open_walk text s 0 ≡ took None n → read_plp text s ≡ took None 8
  unfolding read_plp
  plp_null_lem n h = ap (read_chunks text s) (null-behind (read_plp_head s) n refl (sym front ∙ h))

  pub plp_stops : (e : Refusal) → open_walk text s 0 ≡ stops e → read_plp text s ≡ stops e
  unfolding read_plp
  plp_stops e h = ap (read_chunks text s) (stop_behind_lem (read_plp_head s) e (sym front ∙ h))

  module _ (w : Walk) (n : ℕ) (h : open_walk text s 0 ≡ took (Some w) n) where
    pub plp_walk : (r : Answer Walked) → walk_from (length s + 1) s w 0 ≡ r → read_plp text s ≡ joined_of s w r
    unfolding read_plp
    plp_walk r e =
        let p = walk_behind_lem (read_plp_head s) w n refl (sym front ∙ h) in
        ap (read_chunks text s) p.1 ∙ rw (p.2, e)

    -- the walk stands inside, and has passed nothing
    pub open_inside : (w.at ≤ length s) × (w.sum ≡ 0) × (w.ended ≡ false)
    open_inside =
        let p = walk_behind_lem (read_plp_head s) w n refl (sym front ∙ h) in
        let i = eight s (chunked p.0) 8 p.1 in
        rw (← p.2) (i.1, refl, refl)

-- ---- content that was read

pub record Content (text : Bool) (s c : List ℕ) (n : ℕ) : Type 0 where
  pub total : Option ℕ
  pub end : Walked
  pub behind : 8 ≤ length s
  pub walks : walk_from (length s + 1) s (opened total text) 0 ≡ gives end
  pub joins : joined s (opened total text) ≡ c
  pub next : end.walk.at ≡ n
  pub inside : n ≤ length s

module _ (text : Bool) (s c : List ℕ) (n : ℕ) where
  of_walk : (total : Option ℕ) → 8 ≤ length s → (r : Answer Walked) → walk_from (length s + 1) s (opened total text) 0 ≡ r
      → joined_of s (opened total text) r ≡ took (Some c) n → Content text s c n
  of_walk total b (gives x) h e =
      let w = opened total text in
      let j : Some (joined s w) ≡ Some c = cc in
      let k : joined s w ≡ c = cc in
      let q : x.walk.at ≡ n = cc in
      let i : x.walk.at ≤ length s = walk_keeps s (λ (y : Walk). y.at ≤ length s) (λ y z f _. (moved s y z f).high) (length s + 1) w 0 x h b in
      record { total = total; end = x; behind = b; walks = h; joins = k; next = q; inside = omega arith }
  of_walk total b (refuses r) h e = no_took r (Some c) n e

  of_head : (h : Read PlpHead) → read_plp_head s ≡ h → read_chunks text s h ≡ took (Some c) n → Content text s c n
  of_head (took is_null m) p e = let z : ◌≡◌ {A = ℕ} 0 1 = cc in absurd (omega arith)
  of_head (took (chunked total) m) p e = of_walk total (eight s (chunked total) m p).1 (walk_from (length s + 1) s (opened total text) 0) refl e
  of_head (stops r) p e = no_took r (Some c) n e

  pub plp_content : read_plp text s ≡ took (Some c) n → Content text s c n
  unfolding read_plp
  plp_content h = of_head (read_plp_head s) refl h

-- a PLP value ends inside its input
module _ (text : Bool) (s : List ℕ) (n : ℕ) where
  no_null : (w : Walk) (r : Answer Walked) → joined_of s w r ≡ took None n → n ≤ length s
  no_null w (gives x) q = let z : ◌≡◌ {A = ℕ} 0 1 = cc in absurd (omega arith)
  no_null w (refuses d) q = no_took d None n q

  null-inside : (r : Read PlpHead) → read_plp_head s ≡ r → read_chunks text s r ≡ took None n → n ≤ length s
  null-inside (took is_null m) p e = let i = eight s is_null m p in let q : m ≡ n = cc in omega arith
  null-inside (took (chunked total) m) p e = no_null (opened total text) (walk_from (length s + 1) s (opened total text) 0) e
  null-inside (stops d) p e = no_took d None n e

pub stays_plp : (text : Bool) → Stays (read_plp text)
unfolding read_plp
stays_plp text s None n h = null-inside text s n (read_plp_head s) refl h
stays_plp text s (Some c) n h = (plp_content text s c n h).inside
