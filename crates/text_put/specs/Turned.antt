-- A text of one form in another.
use Rattle.std.specs.Prelude.{ℕ, ◌%◌, List, not, length, eqb}
use Rattle.format.specs.Answer.{Answer, gives, Read, sequence, refuse_if, and_then}
use Rattle.format.specs.Text.{scalars, spelled}

-- A text of units of so many bytes, read by `char`, in the form that `spell` spells. No whole number of units is refusal 8, before anything else.
abbrev pub turned : ℕ → (List ℕ → Read ℕ) → (ℕ → List ℕ) → List ℕ → Answer (List ℕ)
turned unit char spell s = refuse_if (not (eqb (length s % unit) 0)) sequence (and_then (scalars char 0 s) (λ cs. gives (spelled spell cs)))
