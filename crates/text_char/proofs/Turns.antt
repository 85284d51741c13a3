-- A text character by character, for any reader and any spelling: what one turn of the pass that finds the size shows, and one turn of the pass that writes.
-- Assumes nothing.
use mathlib.Core.Path.{◌≡◌, refl, ap, sym, ◌∙◌}
use mathlib.Core.List.{List, [], ◌++◌}
use Prim.Native.Nat.{ℕ, ◌+◌, ◌*◌, ◌<◌, ◌≤◌}
use native.Mathlib.Nat.{zero-add, add-zero, add_assoc}
use native.Mathlib.Omega.{arith}
use lib.ListN.{length, drop, length-drop, length-append, drop_of_length-le}
use lib.Seq.{drop-drop}
use Rattle.lists.specs.Put.{put_at, front}
use Rattle.lists.proofs.Front.{front-end, room_more, grown}
use Rattle.format.specs.Answer.{Answer, gives, refuses, Refusal, Read, took, stops, and_then, wrote}
use Rattle.format.specs.Text.{scalars, spelled}
use Rattle.format.proofs.Answer.{no_gives}
use Rattle.format.proofs.Number.{Bytes}
use Rattle.format.proofs.Characters.{Form, converted, converted_took, converted_stops, scalar-last, taking}
use Rattle.text_char.specs.Told.{fewest}

-- ---- a character at a place

-- a character c of k bytes stands at a place of the text
pub record Stands (char : List ℕ → Read ℕ) (s : List ℕ) (at c k : ℕ) : Type 0 where
  pub begins : at < length s
  pub some : 0 < k
  pub inside : at + k ≤ length s
  pub is : took c k ≡ char (drop at s)

-- what was read by a form's reader: it stands there, is no number above the last scalar value, and in no form takes more than twice the bytes
module _ {char : List ℕ → Read ℕ} {spell : ℕ → List ℕ} (form : Form char spell Bytes) {s : List ℕ} (b : Bytes s) {at c k : ℕ} where
  pub stands : at < length s → took c k ≡ char (drop at s) → Stands char s at c k
  stands h e =
      let t = taking form (drop at s) c k (form.rest at s b) (sym e) in
      record { begins = h; some = t.0; inside = omega (arith, t.1, length-drop at s); is = e }

  pub last : Stands char s at c k → c ≤ 0x10FFFF
  last r = scalar-last c (form.forth (drop at s) c k (form.rest at s b) (sym r.is)).0

  pub long : (to : ℕ → List ℕ) → fewest c ≤ length (spell c) → length (to c) ≤ 2 * fewest c → Stands char s at c k → length (to c) ≤ 2 * k
  long to few most r = omega (arith, (form.forth (drop at s) c k (form.rest at s b) (sym r.is)).2)

-- ---- a count, and what an answer has behind it

abbrev pub plus : ℕ → Answer ℕ → Answer ℕ
plus n a = and_then a (λ m. gives (n + m))

plus_none : (a : Answer ℕ) → a ≡ plus 0 a
plus_none (gives m) = rw (zero-add m)
plus_none (refuses e) = refl

plus_plus : (n k : ℕ) (a : Answer ℕ) → plus n (plus k a) ≡ plus (n + k) a
plus_plus n k (gives m) = rw (add_assoc n k m)
plus_plus n k (refuses e) = refl

wrote-behind : (b : List ℕ) (a : Answer (List ℕ)) → wrote (and_then a (λ u. gives (b ++ u))) ≡ plus (length b) (wrote a)
unfolding wrote
wrote-behind b (gives u) = ap gives (length-append b u)
wrote-behind b (refuses e) = refl

-- ---- the text from a place on

module _ (char : List ℕ → Read ℕ) (spell : ℕ → List ℕ) (s : List ℕ) (at : ℕ) where
  from_end : length s ≤ at → converted char spell (drop at s) ≡ gives []
  unfolding scalars spelled
  from_end h = rw (drop_of_length-le s h)

  from_stops : (e : Refusal) → at < length s → stops e ≡ char (drop at s) → converted char spell (drop at s) ≡ refuses e
  from_stops e h q = converted_stops char spell (drop at s) e (omega (arith, length-drop at s)) (sym q)

  from_took : (c k : ℕ) → Stands char s at c k → converted char spell (drop at s) ≡ and_then (converted char spell (drop (at + k) s))
      (λ u. gives (spell c ++ u))
  from_took c k r =
      let l : 0 < length (drop at s) = omega (arith, r.begins, length-drop at s) in
      rw (← drop-drop k at s) (converted_took char spell (drop at s) c k l r.some (sym r.is))

-- ---- the size: what the text comes to is what it comes to from here on, behind the n that were counted

pub record Sizing (char : List ℕ → Read ℕ) (spell : ℕ → List ℕ) (s : List ℕ) (at n : ℕ) : Type 0 where
  pub inside : at ≤ length s
  pub behind : wrote (converted char spell s) ≡ plus n (wrote (converted char spell (drop at s)))

pub size-start : (char : List ℕ → Read ℕ) (spell : ℕ → List ℕ) (s : List ℕ) → Sizing char spell s 0 0
size-start char spell s = record { inside = omega arith; behind = plus_none (wrote (converted char spell s)) }

module _ {char : List ℕ → Read ℕ} {spell : ℕ → List ℕ} {s : List ℕ} {at n : ℕ} (z : Sizing char spell s at n) where
  behind_is : (a : Answer (List ℕ)) → converted char spell (drop at s) ≡ a → wrote (converted char spell s) ≡ plus n (wrote a)
  behind_is a e = z.behind ∙ ap (λ (x : Answer (List ℕ)). plus n (wrote x)) e

  pub size_more : {c k m : ℕ} → m ≡ length (spell c) → Stands char s at c k → Sizing char spell s (at + k) (n + m)
  size_more {c} {k} l r =
      let rest = converted char spell (drop (at + k) s) in
      record {
        inside = r.inside;
        behind =
            rw l
            (behind_is (and_then rest (λ u. gives (spell c ++ u))) (from_took char spell s at c k r)
            ∙ (ap (plus n) (wrote-behind (spell c) rest) ∙ plus_plus n (length (spell c)) (wrote rest)));
      }

  pub size_stop : {e : Refusal} → at < length s → stops e ≡ char (drop at s) → refuses e ≡ wrote (converted char spell s)
  unfolding wrote
  size_stop {e} h q = sym (behind_is (refuses e) (from_stops char spell s at e h q))

  pub size-end : length s ≤ at → gives n ≡ wrote (converted char spell s)
  unfolding wrote
  size-end h = sym (behind_is (gives []) (from_end char spell s at h) ∙ rw (add-zero n))

-- ---- the bytes: the first o of j stand at the room's front, and the others are what the text comes to from here on

pub record Writing (char : List ℕ → Read ℕ) (spell : ℕ → List ℕ) (s j out₀ out : List ℕ) (at o : ℕ) : Type 0 where
  pub inside : at ≤ length s
  pub within : o ≤ length j
  pub same : length out ≡ length out₀
  pub holds : out ≡ front j o out₀
  pub left : converted char spell (drop at s) ≡ gives (drop o j)

module _ {char : List ℕ → Read ℕ} {spell : ℕ → List ℕ} {s j out₀ out : List ℕ} {at o : ℕ} (w : Writing char spell s j out₀ out at o) where
  module _ {c k : ℕ} (r : Stands char s at c k) (room : length j ≤ length out₀) where
    -- the character's bytes are the next of j
    next : (rest : List ℕ) × (drop o j ≡ spell c ++ rest) × (converted char spell (drop (at + k) s) ≡ gives rest)
    next = go (converted char spell (drop (at + k) s)) refl
      where
        q : and_then (converted char spell (drop (at + k) s)) (λ u. gives (spell c ++ u)) ≡ gives (drop o j)
        q = sym (from_took char spell s at c k r) ∙ w.left

        go : (a : Answer (List ℕ)) → converted char spell (drop (at + k) s) ≡ a →
            (rest : List ℕ) × (drop o j ≡ spell c ++ rest) × (converted char spell (drop (at + k) s) ≡ gives rest)
        go (gives u) f = let g : gives (spell c ++ u) ≡ gives (drop o j) = sym (rw f) ∙ q in (u, cc, f)
        go (refuses x) f = no_gives x (drop o j) (sym (rw f) ∙ q)

    pub write_room : o + length (spell c) ≤ length out
    write_room = omega (arith, room_more j out out₀ (spell c) next.0 o w.within room w.holds next.1, w.same)

    pub write_more : {new : List ℕ} {n : ℕ} → n ≡ length (spell c) → new ≡ put_at out o (spell c) → Writing char spell s j out₀ new (at + k) (o + n)
    write_more {new} {n} l g =
        let m = grown j out out₀ (spell c) next.0 new o n (sym l) w.within room w.same w.holds next.1 g in
        record { inside = r.inside; within = m.room; same = m.same; holds = m.holds; left = next.2 ∙ ap gives (sym m.left) }

  pub write_stop : {P : Type 0} {e : Refusal} → at < length s → stops e ≡ char (drop at s) → P
  write_stop {e = e} h q = no_gives e (drop o j) (sym (from_stops char spell s at e h q) ∙ w.left)

  pub write_end : length s ≤ at → out ≡ j ++ drop (length j) out₀
  write_end h =
      let g : gives [] ≡ gives (drop o j) = sym (from_end char spell s at h) ∙ w.left in
      let e : drop o j ≡ [] = cc in
      w.holds ∙ front-end j o out₀ w.within e
