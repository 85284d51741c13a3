-- Room for PLP content in the writer's form, and the part of it that content takes.
use Rattle.std.specs.Prelude.{ℕ, ◌-◌, ◌≡◌, List, length, take, drop, Some}
use Rattle.format.specs.Plp.{plp_bytes}

-- as many bytes as some content has in its form
abbrev pub FormRoom : List ℕ → Type 0
FormRoom out = (c : List ℕ) × (length out ≡ length (plp_bytes (Some c)))

-- the part behind the chunk's length and before the last zero; nothing where the room is that of empty content
abbrev pub middle : List ℕ → List ℕ
middle out = take (length out - 16) (drop 12 out)
