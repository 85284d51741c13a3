-- A list written into another at a place.
use Rattle.std.specs.Prelude.{ℕ, ◌+◌, List, ◌++◌, length, take, drop}

-- c over what out has at o
unfoldable pub put_at : List ℕ → ℕ → List ℕ → List ℕ
put_at out o c = take o out ++ (c ++ drop (o + length c) out)

-- the first o of j, and out behind them: the room of a loop that has written o bytes of j
unfoldable pub front : List ℕ → ℕ → List ℕ → List ℕ
front j o out = take o j ++ drop o out
