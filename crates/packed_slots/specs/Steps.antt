-- The values of a row as the code takes them: one value more, its numbers at a place of the list, its content in the room. proofs/Slotting.antt ties these to
-- `found_row`.
use Rattle.std.specs.Prelude.{◌≡◌, List, ℕ, ◌+◌, ◌≤◌, length}
use Rattle.lists.specs.Put.{put_at}
use Rattle.format.specs.Answer.{Read, took, stops}
use Rattle.format.specs.Descriptor as D
use Rattle.format.specs.Value.{Value, copied_out}
use Rattle.format.specs.Row.{copied_out_row}
use Rattle.format.specs.Found.{found_of}
use Rattle.read_step.specs.Told.{Place}
use Rattle.packed_slot.specs.Slots.{slot_of}

-- the value that stands there: its numbers are put down, its content is put behind what was copied before, and its place is left behind
abbrev pub Taken : D.Column → Read Value → Place → ℕ → List ℕ → List ℕ → List ℕ → List ℕ → Place → Type 0
Taken c (took v next) p at values out values' out' q =
    (values' ≡ put_at values at (slot_of (found_of c p.at p.copied v)))
    × (out' ≡ put_at out p.copied (copied_out c v))
    × (q ≡ record { at = next; copied = p.copied + length (copied_out c v) })
Taken c (stops e) p at values out values' out' q = ⊥

-- a row that can be read, whose content a room of so many bytes can hold
abbrev pub Readable : ℕ → List D.Column → Read (List Value) → Type 0
Readable size cs (took vs next) = length (copied_out_row cs vs) ≤ size
Readable size cs (stops e) = ⊥
