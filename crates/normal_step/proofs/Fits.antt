-- A normal form that was answered fits the room: whoever called may take that many bytes of the room's front.
-- Why it holds: where the bytes are more than the room has, the answer is a refusal.
-- Assumes nothing.
use mathlib.Core.Path.{◌≡◌, sym}
use mathlib.Core.List.{List}
use Prim.Native.Nat.{ℕ, ◌≤◌}
use lib.Dec.{ltb}
use lib.ListN.{length}
use borrow.Author.Tests.{ltb-false}
use Rattle.format.specs.Answer.{Read, took, stops, room, map_read, fitted_read}
use Rattle.format.proofs.Place.{past, no_took, map-took}

pub count_fits : (a : Read (List ℕ)) (n at size : ℕ) → took n at ≡ map_read length (fitted_read (λ (bytes : List ℕ). bytes) a size) → n ≤ size
unfolding fitted_read
count_fits (took b m) n at size h =
    let t = map-took length (fitted_read (λ (bytes : List ℕ). bytes) (took b m) size) n at (sym h) in
    let p = past (ltb size (length b)) room (took b m) t.0 at t.1 in
    let e : b ≡ t.0 = cc p.1 in
    let l : length t.0 ≤ size = rw (← e) (ltb-false size (length b) p.0) in
    rw (← t.2) l
count_fits (stops x) n at size h = no_took x n at (sym h)
