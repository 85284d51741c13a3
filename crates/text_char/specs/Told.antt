-- What this crate's declared types tell, in the words of `format`.
use Rattle.std.specs.Prelude.{Err, Ok, Result}
use Rattle.std.specs.Prelude.{ℕ, List, [], ◌∷◌, Bool, false, ltb}
use Rattle.lists.specs.Pick.{pick}
use Rattle.format.specs.Answer.{Read, took, stops}
use Rattle.format.specs.Text.{between}
use Rattle.wire.specs.Told.{refusal_told}
use Rattle.wire.specs.declared.Refusal.{Refusal}

-- one character: its scalar value and how many bytes it took
abbrev pub char_told : Result (ℕ × ℕ) Refusal → Read ℕ
char_told (Ok (c, n)) = took c n
char_told (Err e) = stops (refusal_told e)

-- whether a byte of a range stands in front
abbrev pub stands_in : ℕ → ℕ → List ℕ → Bool
stands_in low high [] = false
stands_in low high (b ∷ s) = between low high b

-- the fewest bytes that a scalar value takes in any form; the most are twice as many
abbrev pub fewest : ℕ → ℕ
fewest c = pick (ltb c 0x80) 1 2
