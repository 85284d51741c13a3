-- What this crate's declared types tell, in the words of `format`: content by its count, since its bytes stand in the room.
use Rattle.std.specs.Prelude.{Err, None, Ok, Option, Result, Some}
use Rattle.std.specs.Prelude.{ℕ, List, [], ◌++◌, Bool, length, drop}
use Rattle.format.specs.Answer.{Read, took, stops, further, fitted_read}
use Rattle.format.specs.Plp as P
use Rattle.wire.specs.Told.{refusal_told}
use Rattle.wire.specs.declared.Cursor.{Cursor}
use Rattle.wire.specs.declared.Refusal.{Refusal}

abbrev pub counted : Option (List ℕ) → Option ℕ
counted None = None
counted (Some c) = Some (length c)

-- a null is its eight bytes
abbrev pub judged_told : Result (Option (ℕ × ℕ)) Refusal → Read (Option ℕ)
judged_told (Ok None) = took None 8
judged_told (Ok (Some (n, end))) = took (Some n) end
judged_told (Err e) = stops (refusal_told e)

abbrev pub joined_told : Result (Option ℕ × Cursor) Refusal → Read (Option ℕ)
joined_told (Ok (None, c)) = took None c.at
joined_told (Ok (Some n, c)) = took (Some n) c.at
joined_told (Err e) = stops (refusal_told e)

-- the value that the rest of an input, from a place on, begins with, its chunks joined in a room of so many bytes
abbrev pub join_in : Bool → List ℕ → ℕ → ℕ → Read (Option (List ℕ))
join_in text rest at size = fitted_read P.plp_copied (further at (P.read_plp text rest)) size

-- ---- for the copy, which asks that there is content

abbrev pub IsContent : Read (Option (List ℕ)) → Type 0
IsContent (took None n) = ⊥
IsContent (took (Some c) n) = Unit {0}
IsContent (stops e) = ⊥

abbrev pub content_in : Read (Option (List ℕ)) → List ℕ
content_in (took None n) = []
content_in (took (Some c) n) = c
content_in (stops e) = []

abbrev pub content_of : Bool → List ℕ → List ℕ
content_of text rest = content_in (P.read_plp text rest)

-- content at the front of a room
abbrev pub placed : List ℕ → List ℕ → List ℕ
placed content out = content ++ drop (length content) out
