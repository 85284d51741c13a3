-- A text is characters one after another. By induction along it, for every form of scalar values whose single characters are read back and are what is read:
-- what is spelled is read back, and what is read is spelled as the text.
-- Assumes nothing.
use mathlib.Core.Path.{◌≡◌, refl, ap, sym, ◌∙◌, subst}
use mathlib.Core.List.{List, [], ◌∷◌, ◌++◌}
use mathlib.Core.Bool.{Bool, true, false}
use Prim.Native.Nat.{ℕ, zero, suc, ◌-◌, ◌<◌, ◌≤◌}
use native.Mathlib.Omega.{arith}
use lib.ListN.{length, take, drop, length-append, length-take, length-drop, take-append-drop}
use lib.Seq.{drop-append_seam, take-append_seam}
use lib.Dec.{ltb, leb}
use borrow.Author.Tests.{le-leb, lt-leb, leb-true, ltb-true, ltb-false}
use Rattle.lists.proofs.Split.{split}
use Rattle.format.specs.Answer.{Answer, gives, refuses, Refusal, Read, took, stops, and_then}
use Rattle.format.proofs.Answer.{no_truth, no_gives}
use Rattle.format.specs.Text.{between, scalars, spelled}

-- ---- a range

module _ (low high n : ℕ) where
  pub between_in : low ≤ n → n ≤ high → between low high n ≡ true
  between_in a b = rw (le-leb low n a) (le-leb n high b)

  pub between-below : n < low → between low high n ≡ false
  between-below a = rw (lt-leb low n a)

  pub between-above : high < n → between low high n ≡ false
  between-above a = go (leb low n) refl
    where
      go : (b : Bool) → leb low n ≡ b → between low high n ≡ false
      go true e = rw e (lt-leb n high a)
      go false e = rw e

  -- what lies in a range
  pub in_between : between low high n ≡ true → (low ≤ n) × (n ≤ high)
  in_between h = split (leb low n) (λ p q. (leb-true low n p, leb-true n high q)) (λ p q. no_truth q) h

-- by cases on an order
pub less : {P : Type 0} (a b : ℕ) → (a < b → P) → (b ≤ a → P) → P
less {P} a b f g = go (ltb a b) refl
  where
    go : (t : Bool) → ltb a b ≡ t → P
    go true e = f (ltb-true a b e)
    go false e = g (ltb-false a b e)

-- ---- a text, by any reader of one character

-- a text from one form to another: the characters read by `char` and spelled by `spell`
abbrev pub converted : (List ℕ → Read ℕ) → (ℕ → List ℕ) → List ℕ → Answer (List ℕ)
converted char spell s = and_then (scalars char 0 s) (λ cs. gives (spelled spell cs))

module _ (char : List ℕ → Read ℕ) where
  -- bytes of the character before are passed over
  pub scalars-drop : (k : ℕ) (s : List ℕ) → scalars char k s ≡ scalars char 0 (drop k s)
  unfolding scalars
  scalars-drop zero s = refl
  scalars-drop (suc k) [] = refl
  scalars-drop (suc k) (b ∷ s) = scalars-drop k s

  -- one character, and the rest of the text
  pub scalars-took : (s : List ℕ) (c n : ℕ) → 0 < length s → 0 < n → char s ≡ took c n →
      scalars char 0 s ≡ and_then (scalars char 0 (drop n s)) (λ cs. gives (c ∷ cs))
  unfolding scalars
  scalars-took [] c n h p e = absurd (omega arith)
  scalars-took (b ∷ s) c zero h p e = absurd (omega arith)
  scalars-took (b ∷ s) c (suc n) h p e =
      let z : suc n - 1 ≡ n = omega arith in
      rw (e, z) (ap (λ (a : Answer (List ℕ)). and_then a (λ cs. gives (c ∷ cs))) (scalars-drop n s))

  pub scalars-stops : (s : List ℕ) (e : Refusal) → 0 < length s → char s ≡ stops e → scalars char 0 s ≡ refuses e
  unfolding scalars
  scalars-stops [] e h q = absurd (omega arith)
  scalars-stops (b ∷ s) e h q = rw q

  module _ (spell : ℕ → List ℕ) where
    pub converted_took : (s : List ℕ) (c n : ℕ) → 0 < length s → 0 < n → char s ≡ took c n →
        converted char spell s ≡ and_then (converted char spell (drop n s)) (λ u. gives (spell c ++ u))
    unfolding spelled
    converted_took s c n h p e = rw (scalars-took s c n h p e) (go (scalars char 0 (drop n s)))
      where
        go : (a : Answer (List ℕ)) →
            and_then (and_then a (λ cs. gives (c ∷ cs))) (λ cs. gives (spelled spell cs))
            ≡ and_then (and_then a (λ cs. gives (spelled spell cs))) (λ u. gives (spell c ++ u))
        go (gives cs) = refl
        go (refuses e) = refl

    pub converted_stops : (s : List ℕ) (e : Refusal) → 0 < length s → char s ≡ stops e → converted char spell s ≡ refuses e
    converted_stops s e h q = rw (scalars-stops s e h q)

-- ---- scalar values, and a form of them

-- D76: "any Unicode code point except high-surrogate and low-surrogate code points"
pub data Scalar (c : ℕ) : Type 0 where
  below : c < 0xD800 → Scalar c
  above : 0xDFFF < c → c ≤ 0x10FFFF → Scalar c

pub scalar-last : (c : ℕ) → Scalar c → c ≤ 0x10FFFF
scalar-last c (below h) = omega arith
scalar-last c (above h i) = i

-- every element of a list has a property
abbrev pub Each : (ℕ → Type 0) → List ℕ → Type 0
Each P [] = Unit {0}
Each P (c ∷ cs) = P c × Each P cs

-- what is read in front of a text is a scalar value, and its bytes
abbrev pub Forth : (ℕ → List ℕ) → List ℕ → ℕ → ℕ → Type 0
Forth spell s c n = Scalar c × (take n s ≡ spell c) × (n ≡ length (spell c))

-- by bytes l in front of the text that are a scalar value's
pub forth_is : (spell : ℕ → List ℕ) (s l t : List ℕ) (c n d k : ℕ) → s ≡ l ++ t → spell d ≡ l → length l ≡ k → took d k ≡ took c n → Scalar d →
    Forth spell s c n
forth_is spell s l t c n d k e u i h z =
    let v : d ≡ c = cc in
    let w : k ≡ n = cc in
    let x : spell c ≡ l = rw (← v) u in
    (subst Scalar v z, rw (← w, ← i, e, x) (take-append_seam l t), rw (x, i, w))

-- What a form of scalar values is: a character's bytes are read back, and what is read in front of a text, a list with a property that passes to its rest, is
-- a scalar value's bytes.
pub record Form (char : List ℕ → Read ℕ) (spell : ℕ → List ℕ) (Text : List ℕ → Type 0) : Type 0 where
  pub rest : (n : ℕ) (s : List ℕ) → Text s → Text (drop n s)
  pub some : (c : ℕ) → 0 < length (spell c)
  pub back : (c : ℕ) (s : List ℕ) → Scalar c → char (spell c ++ s) ≡ took c (length (spell c))
  pub forth : (s : List ℕ) (c n : ℕ) → Text s → char s ≡ took c n → Forth spell s c n

module _ {char : List ℕ → Read ℕ} {spell : ℕ → List ℕ} {Text : List ℕ → Type 0} (form : Form char spell Text) where
  -- a character takes at least one byte, and stays inside its text
  pub taking : (s : List ℕ) (c n : ℕ) → Text s → char s ≡ took c n → (0 < n) × (n ≤ length s)
  taking s c n t h =
      let f = form.forth s c n t h in
      let l : length (take n s) ≡ n = ap length f.1 ∙ sym f.2 in
      (omega (arith, f.2, form.some c), omega (arith, l, length-take n s))

  -- what is spelled is read back
  pub spelled_back : (cs : List ℕ) → Each Scalar cs → scalars char 0 (spelled spell cs) ≡ gives cs
  unfolding spelled scalars
  spelled_back [] h = refl
  spelled_back (c ∷ cs) h =
      let l : 0 < length (spell c ++ spelled spell cs) = omega (arith, length-append (spell c) (spelled spell cs), form.some c) in
      let e : drop (length (spell c)) (spell c ++ spelled spell cs) ≡ spelled spell cs = drop-append_seam (spell c) (spelled spell cs) in
      rw (
        scalars-took char (spell c ++ spelled spell cs) c (length (spell c)) l (form.some c) (form.back c (spelled spell cs) h.0),
        e,
        spelled_back
            cs h.1,
      )

  -- what is read of a text is spelled as the text, and its elements are scalar values
  abbrev Spells : List ℕ → List ℕ → Type 0
  Spells s cs = (spelled spell cs ≡ s) × Each Scalar cs

  -- in a text of at most k bytes
  abbrev Spelled-within : ℕ → Type 0
  Spelled-within k = (s cs : List ℕ) → length s ≤ k → Text s → scalars char 0 s ≡ gives cs → Spells s cs

  -- one character more
  spelled_more : (k : ℕ) (s cs : List ℕ) → Spelled-within k → length s ≤ suc k → 0 < length s → Text s → scalars char 0 s ≡ gives cs → Spells s cs
  unfolding spelled
  spelled_more k s cs again l m t h = one (char s) refl
    where
      one : (r : Read ℕ) → char s ≡ r → Spells s cs
      one (stops e) q = no_gives e cs (sym (scalars-stops char s e m q) ∙ h)
      one (took c n) q = more (scalars char 0 (drop n s)) refl
        where
          f : Forth spell s c n
          f = form.forth s c n t q

          p : 0 < n
          p = omega (arith, f.2, form.some c)

          more : (a : Answer (List ℕ)) → scalars char 0 (drop n s) ≡ a → Spells s cs
          more (refuses e) w = no_gives e cs (sym (scalars-took char s c n m p q ∙ rw w) ∙ h)
          more (gives ds) w =
              let z : ◌≡◌ {A = Answer (List ℕ)} (gives (c ∷ ds)) (gives cs) = sym (scalars-took char s c n m p q ∙ rw w) ∙ h in
              let e : c ∷ ds ≡ cs = cc in
              let r = again (drop n s) ds (omega (arith, p, length-drop n s)) (form.rest n s t) w in
              let g : spelled spell (c ∷ ds) ≡ s = rw (← f.1, r.0) (take-append-drop n s) in
              subst (Spells s) e (g, (f.0, r.1))

  spelled-within : (k : ℕ) → Spelled-within k
  unfolding spelled scalars
  spelled-within zero [] cs l t h = let e : [] ≡ cs = cc in subst (Spells []) e (refl, tt)
  spelled-within zero (b ∷ s) cs l t h = absurd (omega arith)
  spelled-within (suc k) [] cs l t h = let e : [] ≡ cs = cc in subst (Spells []) e (refl, tt)
  spelled-within (suc k) (b ∷ s) cs l t h = spelled_more k (b ∷ s) cs (spelled-within k) l (omega arith) t h

  pub spelled_forth : (s cs : List ℕ) → Text s → scalars char 0 s ≡ gives cs → Spells s cs
  spelled_forth s cs t h = spelled-within (length s) s cs (omega arith) t h
