-- What a row needs as two numbers, where a row that was read ends, and what a normal form leaves, by what the layer below told.
-- Assumes nothing.
use mathlib.Core.Path.{◌≡◌, refl, sym, ap, ◌∙◌}
use mathlib.Core.List.{List, [], ◌∷◌}
use Prim.Native.Nat.{ℕ}
use lib.ListN.{length}
use Rattle.format.specs.Answer.{Answer, gives, refuses, Read, took, stops, map_read, room_after_read}
use Rattle.format.specs.Descriptor.{Column}
use Rattle.format.specs.Value.{Value}
use Rattle.value_weigh.specs.Told.{Needs}
use Rattle.judge_step.specs.Told.{needs_of}
use Rattle.board_answer.specs.declared.Counted.{Counted}
use Rattle.board_answer.specs.Told.{counted, place}
use Rattle.board_row_read.specs.Plain.{needs_numbers, itself, written, ends}

-- ---- needs

abbrev pub numbers : Needs → List ℕ
numbers n = n.joined ∷ n.normal ∷ []

pub needs_are : (cs : List Column) (x : Read (List Value)) → map_read numbers (map_read (needs_of cs) x) ≡ map_read (needs_numbers cs) x
needs_are cs (took vs next) = refl
needs_are cs (stops e) = refl

-- ---- a row: it ends where what it needs was told to end

pub row_ends : (r : Counted) (cs : List Column) (told known : Read Needs) (read : Read (List Value)) → told ≡ known → told ≡ map_read (needs_of cs) read →
    r ≡ counted (place known) → r ≡ counted (place read)
row_ends r cs told known (took vs next) k e c = c ∙ ap (λ (x : Read Needs). counted (place x)) (sym k ∙ e)
row_ends r cs told known (stops f) k e c = c ∙ ap (λ (x : Read Needs). counted (place x)) (sym k ∙ e)

-- ---- a normal form

abbrev pub count : Read ℕ → Answer ℕ
count (took n next) = gives n
count (stops e) = refuses e

module _ (r : Counted) (told : Read ℕ) (new : List ℕ) (next : ℕ) (out : List ℕ) (before : ℕ) where
  abbrev pub Leaves : Read (List ℕ) → Type 0
  Leaves read = (r ≡ counted (written read)) × ((new ≡ room_after_read itself read out) × (next ≡ ends read before))

  pub leaves : (read : Read (List ℕ)) → told ≡ map_read length read → r ≡ counted (count told) → new ≡ room_after_read itself read out → next ≡ ends told
      before →
      Leaves read
  leaves (took form m) e c n h = (c ∙ ap (λ (x : Read ℕ). counted (count x)) e, (n, h ∙ ap (λ (x : Read ℕ). ends x before) e))
  leaves (stops f) e c n h = (c ∙ ap (λ (x : Read ℕ). counted (count x)) e, (n, h ∙ ap (λ (x : Read ℕ). ends x before) e))
