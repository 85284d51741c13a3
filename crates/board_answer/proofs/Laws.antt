-- What a call for C and Rust answers and leaves, once its outcome is known: a reader that took or stopped, a writer that was refused before it began or
-- that answered.
-- Assumes nothing.
use mathlib.Core.Path.{◌≡◌, refl, ap, subst, ◌∙◌}
use mathlib.Core.List.{List}
use mathlib.Core.Bool.{Bool, true, false}
use Prim.Native.Nat.{ℕ}
use lib.Dec.{eqb, ltb}
use lib.ListN.{length}
use Rattle.format.specs.Answer.{Refusal, Answer, gives, refuses, Read, took, stops, unknown, refuse_if, fitted, wrote, room_after}
use Rattle.lists.proofs.Split.{clash}
use Rattle.wire.proofs.Writing.{Leaves, refused_before}
use Rattle.board_answer.specs.declared.Counted.{Counted}
use Rattle.board_answer.specs.Told.{flag_given, counted, place, after}

-- ---- a flag that was found: its number is below 2, and says which

pub flag_is : (n : ℕ) (b : Bool) → gives b ≡ flag_given n → (ltb 1 n ≡ false) × (b ≡ eqb n 1)
flag_is n b h = by_bound (ltb 1 n) (eqb n 1) b h
  where
    by_bound : (over x y : Bool) → gives y ≡ refuse_if over unknown (gives x) → (over ≡ false) × (y ≡ x)
    by_bound true x y h = clash cc
    by_bound false x y h = (refl, cc)

-- ---- a reader: its answer, and what it leaves in the lent place

abbrev pub Reads : {A : Type 0} → Counted → A → Read A → A → Type 0
Reads r new read before = (r ≡ counted (place read)) × (new ≡ after read before)

module _ {A : Type 0} (r : Counted) (read : Read A) (new before : A) where
  pub reads_took : (v : A) (next : ℕ) → r ≡ counted (gives next) → new ≡ v → took v next ≡ read → Reads r new read before
  reads_took v next c n e = (c ∙ ap (λ (x : Read A). counted (place x)) e, n ∙ ap (λ (x : Read A). after x before) e)

  pub reads_stops : (e : Refusal) → r ≡ counted (refuses e) → new ≡ before → stops e ≡ read → Reads r new read before
  reads_stops e c n h = (c ∙ ap (λ (x : Read A). counted (place x)) h, n ∙ ap (λ (x : Read A). after x before) h)

-- ---- a writer: its answer, and the room afterwards

abbrev pub Writes : Counted → List ℕ → Answer (List ℕ) → List ℕ → Type 0
Writes r new a out = (r ≡ counted (wrote (fitted a (length out)))) × (new ≡ room_after (fitted a (length out)) out)

-- of what the layer below wrote
pub writes_told : (r : Counted) (told : Answer ℕ) (new : List ℕ) (a b : Answer (List ℕ)) (out : List ℕ) → r ≡ counted told → a ≡ b →
    Leaves told new a out → Writes r new b out
writes_told r told new a b out c e l = let s = subst (λ (x : Answer (List ℕ)). Leaves told new x out) e l in (c ∙ ap counted s.0, s.1)

-- of a refusal that comes before anything is written
pub writes_refused : (r : Counted) (e : Refusal) (a : Answer (List ℕ)) (out : List ℕ) → r ≡ counted (refuses e) → refuses e ≡ a → Writes r out a out
unfolding wrote
writes_refused r e a out c h = let s = refused_before a out e (ap wrote h) in (c ∙ ap counted s.0, s.1)

-- ---- a size: its answer

-- of the size that the layer below told
pub size_told : (r : Counted) (told : Answer ℕ) (a b : Answer (List ℕ)) → r ≡ counted told → told ≡ wrote a → a ≡ b → r ≡ counted (wrote b)
size_told r told a b c t e = c ∙ ap counted (t ∙ ap wrote e)

-- of a refusal that comes before it
pub size-refused : (r : Counted) (e : Refusal) (a : Answer (List ℕ)) → r ≡ counted (refuses e) → refuses e ≡ a → r ≡ counted (wrote a)
unfolding wrote
size-refused r e a c h = c ∙ ap (λ (x : Answer (List ℕ)). counted (wrote x)) h
