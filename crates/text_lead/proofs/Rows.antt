-- The row of table 3-7 that a first byte chooses: found by its tests one after another, and what the table says of a character that begins so.
-- Assumes nothing.
use mathlib.Core.Path.{◌≡◌, refl, ap, ◌∙◌, subst}
use mathlib.Core.List.{List, [], ◌∷◌}
use mathlib.Core.Bool.{Bool, true, false}
use Prim.Native.Nat.{ℕ, ◌≤◌}
use native.Mathlib.Omega.{arith}
use lib.ListN.{drop}
use Rattle.lists.proofs.Split.{split, clash}
use Rattle.format.specs.Answer.{Read, stops, not_text}
use Rattle.format.specs.Text.{between, well_formed, second8, among8, char8}
use Rattle.format.specs.Text as T
use Rattle.format.proofs.Characters.{in_between}
use Rattle.format.proofs.Utf8.{first_other}
use Rattle.text_lead.specs.Told.{row, Led, Chosen, chosen, none, lead_in}

-- the rows before the k-th are not the byte's
abbrev pub Past : ℕ → ℕ → Type 0
Past k a = lead_in well_formed a ≡ lead_in (drop k well_formed) a

module _ (r : T.Row) (rs : List T.Row) (a : ℕ) (b : Bool) where
  pub row_past : b ≡ between r.first r.last a → b ≡ false → lead_in (r ∷ rs) a ≡ lead_in rs a
  row_past e h = rw (← e, h)

  pub row_here : b ≡ between r.first r.last a → b ≡ true → lead_in (r ∷ rs) a ≡ chosen (row r.marker r.low r.high r.more)
  row_here e h = rw (← e, h)

-- what follows the first byte, by the row that it chose
abbrev after : Chosen → ℕ → List ℕ → Read ℕ
after (chosen r) a s = second8 r a s
after none a s = stops not_text

among_lead : (rs : List T.Row) (a : ℕ) (s : List ℕ) → among8 rs a s ≡ after (lead_in rs a) a s
among_lead [] a s = refl
among_lead (r ∷ rs) a s = go (between r.first r.last a) refl (among_lead rs a s)
  where
    same : (t : List ℕ) → second8 r a t ≡ second8 (row r.marker r.low r.high r.more) a t
    same [] = refl
    same (b ∷ t) = refl

    go : (b : Bool) → between r.first r.last a ≡ b → among8 rs a s ≡ after (lead_in rs a) a s → among8 (r ∷ rs) a s ≡ after (lead_in (r ∷ rs) a) a s
    go true e k = rw e (same s)
    go false e k = rw e k

-- what holds of the rows of a table whose first bytes are a's holds of the row that a chooses
abbrev Rows : (T.Row → Type 0) → List T.Row → ℕ → Type 0
Rows P [] a = Unit {0}
Rows P (r ∷ rs) a = (r.first ≤ a → a ≤ r.last → P (row r.marker r.low r.high r.more)) × Rows P rs a

by_lead : (P : T.Row → Type 0) (rs : List T.Row) (a : ℕ) (r : T.Row) → Rows P rs a → lead_in rs a ≡ chosen r → P r
by_lead P [] a r f h = clash cc
by_lead P (q ∷ rs) a r f h =
    split (between q.first q.last a)
    (λ e g. let i = in_between q.first q.last a e in let k : row q.marker q.low q.high q.more ≡ r = cc in subst P k (f.0 i.0 i.1))
    (λ e g. by_lead P rs a r f.1 g)
    h

pub led : (a : ℕ) (r : T.Row) → lead_in well_formed a ≡ chosen r → Led a r
led a r h =
    by_lead (Led a) well_formed a r (omega arith, (omega arith, (omega arith, (omega arith, (omega arith, (omega arith, (omega arith, (omega arith, tt)))))))) h

-- ---- the character, by its first byte

module _ (a : ℕ) (s : List ℕ) where
  pub lead_row : (r : T.Row) → 0x80 ≤ a → lead_in well_formed a ≡ chosen r → char8 (a ∷ s) ≡ second8 r a s
  lead_row r h e = first_other a s h ∙ (among_lead well_formed a s ∙ ap (λ (k : Chosen). after k a s) e)

  pub lead_none : 0x80 ≤ a → lead_in well_formed a ≡ none → char8 (a ∷ s) ≡ stops not_text
  lead_none h e = first_other a s h ∙ (among_lead well_formed a s ∙ ap (λ (k : Chosen). after k a s) e)
