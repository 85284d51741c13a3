-- A field of a frame: its bytes where they are all there, else as many zeros.
use Rattle.std.specs.Prelude.{ℕ, List, length, take, leb, replicate}
use Rattle.lists.specs.Pick.{pick}

abbrev pub field : ℕ → List ℕ → List ℕ
field n s = pick (leb n (length s)) (take n s) (replicate n 0)
