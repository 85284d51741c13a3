-- A list cut into parts of one width, from the left; the last may be shorter.
use Rattle.std.specs.Prelude.{ℕ, zero, suc, ◌+◌, ◌-◌, ◌/◌, List, [], ◌∷◌, length, drop}

-- how many parts of a width a count makes
abbrev pub parts_of : ℕ → ℕ → ℕ
parts_of w n = (n + (w - 1)) / w

-- what each of the first n parts stands for, told by the list from its place on
abbrev pub each_of : {A : Type 0} → ℕ → (List ℕ → A) → ℕ → List ℕ → List A
each_of w f zero xs = []
each_of w f (suc n) xs = f xs ∷ each_of w f n (drop w xs)

-- what each part stands for
unfoldable pub each : {A : Type 0} → ℕ → (List ℕ → A) → List ℕ → List A
each w f xs = each_of w f (parts_of w (length xs)) xs
