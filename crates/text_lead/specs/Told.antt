-- What this crate's declared types tell, in the words of `format`, and what a row is against the byte that chose it.
use Rattle.std.specs.Prelude.{None, Option, Some}
use Rattle.std.specs.Prelude.{ℕ, ◌+◌, ◌≤◌, ◌<◌, List, [], ◌∷◌}
use Rattle.lists.specs.Pick.{pick}
use Rattle.format.specs.Text.{between}
use Rattle.format.specs.Text as T
use Rattle.text_lead.specs.declared.Row.{Row}

-- a row of table 3-7 without its first byte's range, which it was chosen by
abbrev pub row : ℕ → ℕ → ℕ → ℕ → T.Row
row m l h o = record { first = 0; last = 0; marker = m; low = l; high = h; more = o }

abbrev pub row_told : Row → T.Row
row_told r = row r.marker r.low r.high r.more

-- the row that a first byte chooses, or none
pub data Chosen : Type 0 where
  chosen : T.Row → Chosen
  none : Chosen

abbrev pub lead_in : List T.Row → ℕ → Chosen
lead_in [] a = none
lead_in (r ∷ rs) a = pick (between r.first r.last a) (chosen (row r.marker r.low r.high r.more)) (lead_in rs a)

abbrev pub lead_told : Option Row → Chosen
lead_told (Some r) = chosen (row_told r)
lead_told None = none

-- a row against the first byte that chose it: what the arithmetic of a character needs
abbrev pub Led : ℕ → T.Row → Type 0
Led a r = (r.marker ≤ a) × (a < r.marker + 32) × (0x80 ≤ r.low) × (r.high ≤ 0xBF) × (r.more ≤ 2)
