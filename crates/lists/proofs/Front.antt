-- Writing one list after another at the front of a room: the laws that a writing loop needs.
-- Assumes nothing.
use Prim.Native.Nat.{ℕ, suc, ◌+◌, ◌≤◌, ◌<◌}
use mathlib.Core.Path.{◌≡◌, refl, sym, ap, ◌∙◌}
use mathlib.Core.List.{List, [], ◌∷◌, ◌++◌, append_assoc}
use native.Mathlib.Omega.{arith}
use native.Mathlib.Nat.{add-zero, zero-add, add-suc, suc-add}
use native.Mathlib.Numerals.{add-one}
use lib.ListN.{length, get_or, set, take, drop, length-append, length-drop}
use lib.Seq.{set_at, drop-cons, take-suc, take-add, drop-drop, take_at, drop_at, length-take-le, take-append_seam}
use lib.Seq.{drop-append_seam, take-length, sets, sets-eq}
use Rattle.lists.specs.Put.{put_at, front}

-- a run of stores is a list put at a place
pub sets_put : (out : List ℕ) (o : ℕ) (c : List ℕ) → o + length c ≤ length out → sets out o c ≡ put_at out o c
unfolding put_at
sets_put out o c h = sets-eq c out o h ∙ append_assoc (take o out) c (drop (o + length c) out)

pub put_length : (out : List ℕ) (o : ℕ) (c : List ℕ) → o + length c ≤ length out → length (put_at out o c) ≡ length out
unfolding put_at
put_length out o c h = simp (length-append, length-drop, length-take-le o out (omega arith)) (omega arith)

pub front_none : (j out : List ℕ) → out ≡ front j 0 out
unfolding front
front_none j out = refl

pub front_all : (j : List ℕ) (o : ℕ) (out : List ℕ) → o ≡ length j → front j o out ≡ j ++ drop (length j) out
unfolding front
front_all j o out e = rw (e, take-length)

module _ (j out out₀ c rest : List ℕ) (o : ℕ) (h : o ≤ length j) (k : length j ≤ length out₀) (e : out ≡ front j o out₀) (d : drop o j ≡ c ++ rest) where
  pub front_more : put_at out o c ≡ front j (o + length c) out₀
  unfolding front put_at
  front_more =
      let l : length (take o j) ≡ o = length-take-le o j h in
      let t : take o out ≡ take o j = ap (take o) e ∙ take_at (take o j) (drop o out₀) o l in
      let f : drop o out ≡ drop o out₀ = ap (drop o) e ∙ drop_at (take o j) (drop o out₀) o l in
      let g : drop (o + length c) out ≡ drop (o + length c) out₀ = sym (drop-drop (length c) o out) ∙ ap (drop (length c)) f ∙ drop-drop (length c) o out₀ in
      let m : take (length c) (drop o j) ≡ c = ap (take (length c)) d ∙ take-append_seam c rest in
      simp (t, g, take-add, m, append_assoc)

  pub rest_more : drop (o + length c) j ≡ rest
  rest_more = sym (drop-drop (length c) o j) ∙ ap (drop (length c)) d ∙ drop-append_seam c rest

  pub room_more : o + length c ≤ length j
  room_more = omega (arith, simp (length-drop, length-append) at (ap length d))

-- the same with the count of what is written by another name: what one turn of a writing loop shows
pub record Grown (j out₀ c rest new : List ℕ) (o m : ℕ) : Type 0 where
  pub room : o + m ≤ length j
  pub same : length new ≡ length out₀
  pub holds : new ≡ front j (o + m) out₀
  pub left : drop (o + m) j ≡ rest

pub grown : (j out out₀ c rest new : List ℕ) (o m : ℕ) → length c ≡ m → o ≤ length j → length j ≤ length out₀ → length out ≡ length out₀ →
    out ≡ front j o out₀ → drop o j ≡ c ++ rest → new ≡ put_at out o c → Grown j out₀ c rest new o m
grown j out out₀ c rest new o m l h k z e d n =
    let r = room_more j out out₀ c rest o h k e d in
    record {
      room = omega arith;
      same = ap length n ∙ put_length out o c (omega arith) ∙ z;
      holds = rw (← l) (n ∙ front_more j out out₀ c rest o h k e d);
      left = rw (← l) (rest_more j out out₀ c rest o h k e d);
    }

pub front-end : (j : List ℕ) (o : ℕ) (out : List ℕ) → o ≤ length j → drop o j ≡ [] → front j o out ≡ j ++ drop (length j) out
front-end j o out h d = front_all j o out (omega (arith, simp length-drop at (ap length d)))

-- one element more of a list that is copied
pub front_turn : (j out out₀ : List ℕ) (i : ℕ) → i < length j → length j ≤ length out₀ → out ≡ front j i out₀ → set out i (get_or j i 0) ≡ front j (i + 1) out₀
unfolding front
front_turn j out out₀ i h k e =
    let l : length (take i j) ≡ i = length-take-le i j (omega arith) in
    let d : drop i out₀ ≡ get_or out₀ i 0 ∷ drop (suc i) out₀ = drop-cons out₀ i 0 (omega arith) in
    ap (λ (x : List ℕ). set x i (get_or j i 0)) (e ∙ ap (λ (x : List ℕ). take i j ++ x) d)
    ∙ (set_at (take i j) (get_or out₀ i 0) (drop (suc i) out₀) (get_or j i 0) i l
    ∙ rw (add-one i, take-suc j i 0 h, append_assoc))

-- one run of stores behind another is one run
pub sets_more : (out : List ℕ) (at : ℕ) (xs ys : List ℕ) → sets (sets out at xs) (at + length xs) ys ≡ sets out at (xs ++ ys)
sets_more out at [] ys = rw add-zero
sets_more out at (x ∷ xs) ys = rw (add-suc, ← suc-add) (sets_more (set out at x) (suc at) xs ys)

-- the same, with the place behind the first run by another name
pub sets_then : (out : List ℕ) (at next : ℕ) (xs ys : List ℕ) → next ≡ at + length xs → sets (sets out at xs) next ys ≡ sets out at (xs ++ ys)
sets_then out at next xs ys e = rw e (sets_more out at xs ys)

-- a run of stores at the front
pub sets-front : (out c : List ℕ) → length c ≤ length out → sets out 0 c ≡ c ++ drop (length c) out
sets-front out c h = sets-eq c out 0 (rw zero-add h) ∙ rw zero-add
