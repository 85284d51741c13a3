-- A row read under a packed table of columns: what it needs, its values as three numbers each, its normal form.
use Rattle.std.specs.Prelude.{ℕ, List, [], ◌∷◌, length}
use Rattle.format.specs.Answer.{Answer, gives, refuses, Read, took, stops, map_read, read_at, fitted_read, room_after_read}
use Rattle.format.specs.Descriptor.{Column}
use Rattle.format.specs.Value.{Value}
use Rattle.format.specs.Row.{read_row, copied_out_row}
use Rattle.format.specs.Normal.{normal, encode_row}
use Rattle.packed.specs.Packed.{table_columns}
use Rattle.packed_read.specs.Told.{row_out, values_after}

-- ---- what a row needs: the bytes of room that reading takes, and the bytes of the normal form

abbrev pub needs_numbers : List Column → List Value → List ℕ
needs_numbers cs vs = length (copied_out_row cs vs) ∷ length (encode_row cs vs) ∷ []

abbrev pub needs_at : List ℕ → List ℕ → ℕ → Read (List ℕ)
needs_at table s at = map_read (needs_numbers (table_columns table)) (read_at (read_row (table_columns table)) s at)

-- ---- the row, with a room and a list of numbers; the room and the list afterwards

abbrev pub row_at : List ℕ → List ℕ → ℕ → List ℕ → List ℕ → Read (List Value)
row_at table s at room values = row_out (table_columns table) s at (length room) (length values)

abbrev pub row_room : List ℕ → List ℕ → ℕ → List ℕ → List ℕ → List ℕ
row_room table s at room values = room_after_read (copied_out_row (table_columns table)) (row_at table s at room values) room

abbrev pub row_values : List ℕ → List ℕ → ℕ → List ℕ → List ℕ → List ℕ
row_values table s at room values = values_after (table_columns table) s at (row_at table s at room values) values

-- ---- the normal form, with a room; the room afterwards

abbrev pub itself : List ℕ → List ℕ
itself bytes = bytes

abbrev pub normal_at : List ℕ → List ℕ → ℕ → List ℕ → Read (List ℕ)
normal_at table s at room = fitted_read itself (read_at (normal (table_columns table)) s at) (length room)

abbrev pub normal_room : List ℕ → List ℕ → ℕ → List ℕ → List ℕ
normal_room table s at room = room_after_read itself (normal_at table s at room) room

-- the count is that of the bytes written
abbrev pub written : Read (List ℕ) → Answer ℕ
written (took form next) = gives (length form)
written (stops e) = refuses e

-- where the row ends; at a refusal, what stood there
abbrev pub ends : {A : Type 0} → Read A → ℕ → ℕ
ends (took v next) before = next
ends (stops e) before = before
