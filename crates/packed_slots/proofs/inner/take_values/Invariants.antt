use mathlib.Core.Path.{◌≡◌}
use Prim.Native.Nat.{◌≤◌, ◌-◌}
use lib.ListN.{length}
use Rattle.packed.specs.Made.{table_made}
use Rattle.read_step.specs.Told.{place_told}
use Rattle.packed_slots.proofs.Slotting.{Slotted}
use Rattle.packed_slots.proofs.inner.take_values.Given as goal

-- the row's place is the one that the first value's place was made of
abbrev pub invariant-loop-i : goal.invariant-loop-i
invariant-loop-i l =
    (l.i ≤ l.n) × (length l.values ≡ length l.initial.values) × (length l.out ≡ length l.initial.out)
    × Slotted (table_made l.table) l.s l.initial.place.cursor.at l.initial.values l.initial.out l.i (place_told l.place) l.values l.out
