-- Reading at a place under columns that an array of 1,024 places has, and under more: what `counted_read` makes of each.
-- Assumes nothing.
use mathlib.Core.Bool.{Bool, true, false}
use mathlib.Core.List.{List}
use mathlib.Core.Path.{◌≡◌, refl, ◌∙◌}
use Prim.Native.Nat.{ℕ}
use lib.Dec.{ltb}
use lib.ListN.{length}
use Rattle.lists.specs.Pick.{pick}
use Rattle.format.specs.Answer.{Refusal, Read, stops, further, stop_if, map_read, read_at, fitted_read, room_after_read, missing, rule}
use Rattle.value_weigh.specs.Told.{Needs}
use Rattle.judge_step.specs.Steps.{start_of}
use Rattle.held.specs.Held.{too_many}
use Rattle.held_read.specs.Held.{counted_read}

-- as many columns as the count says
pub few_read : {A : Type 0} (count : ℕ) (reader : List ℕ → Read A) (s : List ℕ) (at : ℕ) → too_many count ≡ false
    → read_at (counted_read count reader) s at ≡ read_at reader s at
unfolding read_at
few_read count reader s at h = rw h

-- more than there are places, `n` what judging the row answers at its start
module _ {A : Type 0} (count : ℕ) (s : List ℕ) (at : ℕ) {n : Read Needs} (h : too_many count ≡ true) (k : n ≡ start_of count (length s) at) where
  -- reading stops as judging does: what tells each refusal alike tells both answers alike
  pub many_read : {B : Type 0} (reader : List ℕ → Read A) (f : Read Needs → B) (g : Read A → B) → ((e : Refusal) → f (stops e) ≡ g (stops e))
      → f n ≡ g (read_at (counted_read count reader) s at)
  unfolding read_at
  many_read reader f g alike = rw (k, h) (each (ltb (length s) at))
    where
      each : (b : Bool) → f (stop_if b missing (stops rule)) ≡ g (pick b (stops missing) (further at (stops rule)))
      each true = alike missing
      each false = alike rule

  -- so a call that has a room answers, and leaves the room as it was
  pub many_leaves : {B : Type 0} {r : Read B} (reader : List ℕ → List ℕ → Read A) (copied : List ℕ → A → List ℕ) (tell : A → B) (out : List ℕ)
      (f : Read Needs → Read B) → ((e : Refusal) → f (stops e) ≡ stops e) → r ≡ f n
      → ((b : List ℕ) → r ≡ map_read tell (fitted_read (copied b) (read_at (counted_read count (reader b)) s at) (length out)))
      × ((b : List ℕ) → out ≡ room_after_read (copied b) (fitted_read (copied b) (read_at (counted_read count (reader b)) s at) (length out)) out)
  unfolding fitted_read room_after_read
  many_leaves reader copied tell out f keeps e = (
    λ b. e ∙ many_read (reader b) f (λ a. map_read tell (fitted_read (copied b) a (length out))) keeps,
    λ b. many_read (reader b) (λ m. out) (λ a. room_after_read (copied b) (fitted_read (copied b) a (length out)) out) (λ m. refl),
  )
