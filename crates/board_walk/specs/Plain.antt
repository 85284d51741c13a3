-- A walk over PLP chunks as six numbers: at, sum, known, total, text, ended. Three are flags, 0 or 1; another number there is 2 before anything else.
use Rattle.std.specs.Prelude.{ℕ, Bool, true, List, [], ◌∷◌, eqb, ltb, get_or, None, Option, Some}
use Rattle.lists.specs.Pick.{pick}
use Rattle.format.specs.Answer.{Answer, gives, refuses, Read, took, stops, unknown, refuse_if, stop_if, and_then}
use Rattle.format.specs.Plp.{Walk, Walked, open_walk, walk_chunks}

-- ---- a walk told

abbrev pub flag : Bool → ℕ
flag b = pick b 1 0

-- a total that is not known is two zeros
abbrev pub known_number : Option ℕ → ℕ
known_number None = 0
known_number (Some n) = 1

abbrev pub total_number : Option ℕ → ℕ
total_number None = 0
total_number (Some n) = n

abbrev pub walk_numbers : Walk → List ℕ
walk_numbers w = w.at ∷ w.sum ∷ known_number w.total ∷ total_number w.total ∷ flag w.text ∷ flag w.ended ∷ []

-- ---- a walk opened

-- a null has no chunks: its walk has ended at once, at the next place
abbrev pub null_walk : Bool → ℕ → Walk
null_walk text next = record { at = next; sum = 0; total = None; text = text; ended = true }

abbrev pub opened_numbers : Bool → Read (Option Walk) → Read (List ℕ)
opened_numbers text (took (Some w) next) = took (walk_numbers w) next
opened_numbers text (took None next) = took (walk_numbers (null_walk text next)) next
opened_numbers text (stops e) = stops e

-- the walk behind the eight bytes at a place
abbrev pub walk_at : ℕ → List ℕ → ℕ → Read (List ℕ)
walk_at text s at = stop_if (ltb 1 text) unknown (opened_numbers (eqb text 1) (open_walk (eqb text 1) s at))

-- ---- a walk stepped

-- the total counts only where known is 1
abbrev pub total_given : ℕ → ℕ → Option ℕ
total_given known total = pick (eqb known 1) (Some total) None

-- the walk of six numbers
abbrev pub walk_given : ℕ → ℕ → ℕ → ℕ → ℕ → ℕ → Answer Walk
walk_given at sum known total text ended =
    refuse_if (ltb 1 known) unknown
    (refuse_if (ltb 1 text) unknown
    (refuse_if (ltb 1 ended) unknown
    (gives (record { at = at; sum = sum; total = total_given known total; text = eqb text 1; ended = eqb ended 1 }))))

abbrev pub given : List ℕ → Answer Walk
given n = walk_given (get_or n 0 0) (get_or n 1 0) (get_or n 2 0) (get_or n 3 0) (get_or n 4 0) (get_or n 5 0)

-- the six numbers' walk, and how far it comes
abbrev pub walk_step : ℕ → List ℕ → List ℕ → Answer Walked
walk_step allowed s n = and_then (given n) (walk_chunks allowed s)

-- the count is that of the heads taken
abbrev pub heads : Answer Walked → Answer ℕ
heads (gives x) = gives x.taken
heads (refuses e) = refuses e

-- where the walk stands afterwards; at a refusal, as it stood
abbrev pub walk_after : Answer Walked → List ℕ → List ℕ
walk_after (gives x) before = walk_numbers x.walk
walk_after (refuses e) before = before
