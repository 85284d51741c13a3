-- PLP values: `codec text`, for binary and for text.
--   again: null, and content within the bound (of an even count where it is text), written and with any bytes behind it, reads as itself and ends where it
--          ends. The writer's one chunk is one head and the last zero another; empty content is the last zero alone.
--   fits:  what was read is within the bound, and even where it is text.
--   short: written again it is no longer. Each head costs four bytes, content needs two heads at least and the last zero is one of them; and the content is as
--          long as the chunks' sum.
-- Of the bound's value nothing is used but that a chunk's length of four bytes can say it.
-- Assumes nothing.
use Rattle.std.specs.Prelude.{None, Option, Some}
use mathlib.Core.Path.{◌≡◌, refl, ap, sym, ◌∙◌}
use mathlib.Core.List.{List, [], ◌∷◌, ◌++◌, append_assoc, append-nil}
use mathlib.Core.Bool.{Bool, true, false}
use Prim.Native.Nat.{ℕ, zero, suc, ◌+◌, ◌-◌, ◌^◌, ◌<◌, ◌≤◌}
use native.Mathlib.Nat.{zero-add, suc-add}
use native.Mathlib.Numerals.{add-one}
use native.Mathlib.Omega.{arith}
use lib.ListN.{length, take, drop, length-append, length-drop}
use lib.Seq.{drop-drop, take-append_seam, drop-append_seam}
use lib.Dec.{ltb, eqb, lit<}
use Rattle.lists.specs.Pick.{pick}
use Rattle.lists.proofs.Split.{split}
use Rattle.format.specs.Answer.{Answer, gives, refuses, Read, took, stops, long}
use Rattle.format.specs.Number.{low_nat, low_bytes, read_low}
use Rattle.format.specs.Plp.{plp_bound, plp_null, plp_unknown, PlpHead, is_null, chunked, head_of, read_plp_head, Walk, is_odd, length_at, Walked}
use Rattle.format.specs.Plp.{walk_from, join_from, opened, joined_of, read_chunks, read_plp, chunk_bytes, plp_bytes}
use Rattle.format.proofs.Number.{low_back}
use Rattle.format.proofs.Answer.{no_truth}
use Rattle.format.proofs.Place.{past, no_took, then_took, stays_low}
use Rattle.format.proofs.Plain.{low_again, low-took}
use Rattle.format.proofs.Codec.{Codec, then_again}
use Rattle.format.proofs.Chunks.{at_end, behind, Head, last, chunk, walk-ended, join_ended, walk_head, join_head, walk_keeps, walk_ends, join_sums}

-- Content within a bound, of an even count where it is text; or null.
abbrev pub Within : Bool → ℕ → Option (List ℕ) → Type 0
Within text bound None = Unit {0}
Within text bound (Some c) = (length c ≤ bound) × (is_odd text (length c) ≡ false)

-- the bound is a length that a chunk's head can say
pub bound-said : plp_bound < 256 ^ 4
unfolding plp_bound
bound-said = lit< tt

-- ---- what was written reads again

-- a length stands at a place of the input
module _ (s tail : List ℕ) (at n : ℕ) (h : n < 256 ^ 4) (e : drop at s ≡ low_bytes 4 n ++ tail) where
  said-length : length_at s at ≡ n
  said-length = ap (λ (l : List ℕ). low_nat (take 4 l)) e ∙ low_back 4 n h

  said-rest : drop (at + 4) s ≡ tail
  said-rest = sym (drop-drop 4 at s) ∙ ap (drop 4) e

  said-inside : at + 4 + length tail ≡ length s
  said-inside = omega (arith, simp length-drop at (ap length e))

-- the walk at the last zero
module _ (s rest : List ℕ) (a k : ℕ) (w : Walk) (n : w.ended ≡ false) (t : w.total ≡ None) (o : is_odd w.text w.sum ≡ false)
    (e : drop w.at s ≡ low_bytes 4 0 ++ rest) where
  zero_head : Head s w (at_end w)
  zero_head = last (omega (arith, said-inside s rest w.at 0 (lit< tt) e)) (said-length s rest w.at 0 (lit< tt) e) (rw t) o

  zero-walk : walk_from (suc a) s w k ≡ gives (record { walk = at_end w; taken = k + 1 })
  zero-walk = walk_head s a w (at_end w) k n zero_head ∙ walk-ended s a (at_end w) (k + 1) refl

  zero_join : join_from (suc a) s w ≡ []
  zero_join =
      let z : w.at + 4 - (w.at + 4) ≡ 0 = omega arith in
      join_head s a w (at_end w) n zero_head ∙ rw (z, join_ended s a (at_end w) refl)

-- the walk over one chunk and the last zero
module _ (text : Bool) (s c rest : List ℕ) (a : ℕ) (p : 0 < length c) (b : length c ≤ plp_bound) (o : is_odd text (length c) ≡ false)
    (e : drop 8 s ≡ low_bytes 4 (length c) ++ (c ++ (low_bytes 4 0 ++ rest))) where
  abbrev start : Walk
  start = opened None text

  abbrev later : Walk
  later = behind start (length c)

  said : length c < 256 ^ 4
  said = omega (arith, b, bound-said)

  one_head : Head s start later
  one_head =
      let t = c ++ (low_bytes 4 0 ++ rest) in
      let i = said-inside s t 8 (length c) said e in
      let l = length-append c (low_bytes 4 0 ++ rest) in
      chunk (length c) (omega arith) (said-length s t 8 (length c) said e) p (omega arith) refl

  rest_at : drop (8 + 4 + length c) s ≡ low_bytes 4 0 ++ rest
  rest_at =
      sym (drop-drop (length c) 12 s)
      ∙ (ap (drop (length c)) (said-rest s (c ++ (low_bytes 4 0 ++ rest)) 8 (length c) said e) ∙ drop-append_seam c (low_bytes 4 0 ++ rest))

  one_walk : walk_from (suc (suc a)) s start 0 ≡ gives (record { walk = at_end later; taken = 2 })
  one_walk = walk_head s (suc a) start later 0 refl one_head ∙ zero-walk s rest a 1 later refl refl (rw zero-add o) rest_at

  one_join : join_from (suc (suc a)) s start ≡ c
  one_join =
      let n : 8 + 4 + length c - 12 ≡ length c = omega arith in
      let d : drop 12 s ≡ c ++ (low_bytes 4 0 ++ rest) = said-rest s (c ++ (low_bytes 4 0 ++ rest)) 8 (length c) said e in
      join_head s (suc a) start later refl one_head ∙
      rw (zero_join s rest a 1 later refl refl (rw zero-add o) rest_at, append-nil, n, d, take-append_seam c (low_bytes 4 0 ++ rest))

-- the eight bytes
null_head : (rest : List ℕ) → read_plp_head (low_bytes 8 plp_null ++ rest) ≡ took is_null 8
unfolding read_plp_head
null_head rest = then_again (read_low 8) head_of (low_bytes 8 plp_null) [] rest plp_null is_null (λ more. low_again 8 plp_null more (lit< tt)) refl

unknown_head : (rest : List ℕ) → read_plp_head (low_bytes 8 plp_unknown ++ rest) ≡ took (chunked None) 8
unfolding read_plp_head
unknown_head rest = then_again (read_low 8) head_of (low_bytes 8 plp_unknown) [] rest plp_unknown (chunked None)
    (λ more. low_again 8 plp_unknown more (lit< tt)) refl

-- behind eight bytes that say an unknown length, a walk that ends and what it joins
plp_joins : (text : Bool) (s c : List ℕ) (x : Walked) → read_plp_head s ≡ took (chunked None) 8 →
    walk_from (length s + 1) s (opened None text) 0 ≡ gives x → join_from (length s + 1) s (opened None text) ≡ c →
    read_plp text s ≡ took (Some c) x.walk.at
unfolding read_plp
plp_joins text s c x h w j = rw (h, w, j)

again : (text : Bool) (o : Option (List ℕ)) (rest : List ℕ) → Within text plp_bound o → read_plp text (plp_bytes o ++ rest) ≡ took o (length (plp_bytes o))
unfolding read_plp plp_bytes
again text None rest f = ap (read_chunks text (plp_bytes None ++ rest)) (null_head rest)
again text (Some []) rest f =
    let s = plp_bytes (Some []) ++ rest in
    let m : length s + 1 ≡ suc (length s) = add-one (length s) in
    let o = f.1 in
    plp_joins text s [] (record { walk = at_end (opened None text); taken = 1 }) (unknown_head (low_bytes 4 0 ++ rest))
    (rw m (zero-walk s rest (length s) 0 (opened None text) refl refl o refl))
    (rw m (zero_join s rest (length s) 0 (opened None text) refl refl o refl))
again text (Some (b ∷ bs)) rest f =
    let c = b ∷ bs in
    let z = low_bytes 4 0 in
    let s = plp_bytes (Some c) ++ rest in
    let m : length s + 1 ≡ suc (suc (length s - 1)) = omega arith in
    let e : drop 8 s ≡ low_bytes 4 (length c) ++ (c ++ (z ++ rest)) = ap (λ (l : List ℕ). low_bytes 4 (length c) ++ l) (append_assoc c z rest) in
    let l : 8 + 4 + length c + 4 ≡ length (plp_bytes (Some c)) = omega (arith, length-append c z) in
    plp_joins text s c (record { walk = at_end (behind (opened None text) (length c)); taken = 2 }) (unknown_head (drop 8 s))
    (rw m (one_walk text s c rest (length s - 1) (omega arith) f.0 f.1 e))
    (rw m (one_join text s c rest (length s - 1) (omega arith) f.0 f.1 e))
    ∙ ap (took (Some c)) l

-- ---- what was read

-- what the writer's one chunk of n bytes costs, and the last zero
abbrev chunk_cost : ℕ → ℕ
chunk_cost zero = 0
chunk_cost (suc n) = 4 + suc n

abbrev end_cost : Bool → ℕ
end_cost ended = pick ended 4 0

cost_more : (m n : ℕ) → chunk_cost (m + n) ≤ chunk_cost m + (4 + n)
cost_more zero zero = omega arith
cost_more zero (suc n) = rw (zero-add (suc n)) (omega arith)
cost_more (suc m) n = rw (suc-add m n) (omega arith)

-- what a walk has paid for what the writer would write of its sum, and what it has seen to
record Paid (text : Bool) (w : Walk) : Type 0 where
  asked : w.text ≡ text
  bound : w.sum ≤ plp_bound
  cost : 8 + (chunk_cost w.sum + end_cost w.ended) ≤ w.at
  even : w.ended ≡ true → is_odd text w.sum ≡ false

paid : (text : Bool) (s : List ℕ) (w x : Walk) → Head s w x → Paid text w → Paid text x
paid text s w x (last i z u o) p = record { asked = p.asked; bound = p.bound; cost = omega (arith, p.cost); even = λ _. rw (← p.asked) o }
paid text s w x (chunk n i l q b a) p =
    record { asked = p.asked; bound = b; cost = omega (arith, p.cost, cost_more w.sum n); even = no_truth }

-- how a PLP value was read: as null, or as content
pub data Taken (text : Bool) : Option (List ℕ) → ℕ → Type 0 where
  null : Taken text None 8
  content : (c : List ℕ) (n : ℕ) → length c ≤ plp_bound → is_odd text (length c) ≡ false → 8 + (chunk_cost (length c) + 4) ≤ n → Taken text (Some c) n

head_count : (a : ℕ) (s : List ℕ) (h : PlpHead) (n : ℕ) → head_of a s ≡ took h n → n ≡ 0
head_count a s h n =
    split (eqb a plp_null) (λ _ e. cc)
    (λ _. split (eqb a plp_unknown) (λ _ e. cc)
    (λ _ e. let p = past (ltb plp_bound a) long (took (chunked (Some a)) 0) h n e in cc p.1))

-- the eight bytes took eight
pub eight : (s : List ℕ) (h : PlpHead) (n : ℕ) → read_plp_head s ≡ took h n → (n ≡ 8) × (8 ≤ length s)
unfolding read_plp_head
eight s h n e =
    let p = then_took (read_low 8) head_of s h n e in
    let q = low-took 8 s p.0 p.1 p.3 in
    let r = head_count p.0 (drop p.1 s) h p.2 p.4 in
    let l = stays_low 8 s p.0 p.1 p.3 in
    let t = p.5 in
    (omega arith, omega arith)

module _ (text : Bool) (s : List ℕ) (o : Option (List ℕ)) (n : ℕ) where
  chunks_took : (total : Option ℕ) → 8 ≤ length s → (r : Answer Walked) → walk_from (length s + 1) s (opened total text) 0 ≡ r →
      joined_of s (opened total text) r ≡ took o n → Taken text o n
  chunks_took total i (gives x) h e =
      let w = opened total text in
      let c = join_from (length s + 1) s w in
      let p : Some c ≡ o = cc in
      let q : x.walk.at ≡ n = cc in
      let l : length c ≡ x.walk.sum = omega (arith, join_sums s (length s + 1) w 0 x h) in
      let d : x.walk.ended ≡ true = walk_ends s (length s + 1) w 0 x i (omega arith) h in
      let f =
      walk_keeps s (Paid text) (paid text s) (length s + 1) w 0 x h
      (record { asked = refl; bound = omega arith; cost = omega arith; even = no_truth }) in
      rw (← p, ← q) (content c x.walk.at (rw l f.bound) (rw l (f.even d)) (rw l (rw d at f.cost)))
  chunks_took total i (refuses r) h e = no_took r o n e

  head_took : (h : Read PlpHead) → read_plp_head s ≡ h → read_chunks text s h ≡ took o n → Taken text o n
  head_took (took is_null m) h e =
      let p : None ≡ o = cc in
      let q : m ≡ n = cc in
      let t : 8 ≡ n = sym (eight s is_null m h).0 ∙ q in
      rw (← p, ← t) null
  head_took (took (chunked total) m) h e = chunks_took total (eight s (chunked total) m h).1 (walk_from (length s + 1) s (opened total text) 0) refl e
  head_took (stops r) h e = no_took r o n e

  pub plp_took : read_plp text s ≡ took o n → Taken text o n
  unfolding read_plp
  plp_took h = head_took (read_plp_head s) refl h

taken_fits : (text : Bool) (o : Option (List ℕ)) (n : ℕ) → Taken text o n → Within text plp_bound o
taken_fits text o n null = tt
taken_fits text o n (content c m b e i) = (b, e)

length-chunk : (c : List ℕ) → length (chunk_bytes c) ≡ chunk_cost (length c)
length-chunk [] = refl
length-chunk (b ∷ bs) = omega arith

taken-short : (text : Bool) (o : Option (List ℕ)) (n : ℕ) → Taken text o n → length (plp_bytes o) ≤ n + 0
unfolding plp_bytes
taken-short text o n null = omega arith
taken-short text o n (content c m b e i) = omega (arith, i, length-chunk c, length-append (chunk_bytes c) (low_bytes 4 0))

-- ---- the codec

pub codec : (text : Bool) → Codec (read_plp text) plp_bytes (Within text plp_bound) 0
codec text = record {
  again = again text;
  fits = λ s o n b h. taken_fits text o n (plp_took text s o n h);
  short = λ s o n b h. taken-short text o n (plp_took text s o n h);
}
