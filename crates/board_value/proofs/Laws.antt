-- What is written of three numbers under a record of 16 bytes, and what is read, by what the layers below tell of the column and of the value made of them.
-- Assumes nothing.
use Rattle.std.specs.Prelude.{None, Some}
use mathlib.Core.Path.{◌≡◌, sym, ap, ◌∙◌}
use mathlib.Core.List.{List, []}
use Prim.Native.Nat.{ℕ}
use lib.ListN.{get_or}
use Rattle.format.specs.Answer.{Refusal, refuses, Read, map_read}
use Rattle.format.specs.Descriptor as D
use Rattle.format.specs.Value.{write_value}
use Rattle.format.specs.Found.{Found}
use Rattle.column_type.specs.declared.Column.{Column}
use Rattle.column_type.specs.Told.{column_told}
use Rattle.value_kind.specs.declared.Value.{Value}
use Rattle.value_kind.specs.Told.{value_told}
use Rattle.value_read.specs.Told.{found_out, room_out}
use Rattle.packed.specs.Packed.{column_of, no_names}
use Rattle.packed.specs.Made.{column_made, no_name}
use Rattle.packed.proofs.Told.{plain_told}
use Rattle.packed_value.specs.Numbers.{no_value}
use Rattle.packed_value.specs.Made.{given_made}
use Rattle.packed_value.proofs.Told.{value_told_lem}
use Rattle.packed_slot.specs.Slots.{slot_of}
use Rattle.board_value.specs.Plain.{value_given, value_at, room_at}

-- ---- a record without names stands for its column, whatever the buffer

column_is : (s r : List ℕ) (c : Column) → c ≡ column_made r no_name no_name no_name → column_told s c ≡ column_of r no_names
column_is s r c e = ap (column_told s) e ∙ plain_told s r

-- ---- written

module _ (value buffer column : List ℕ) where
  pub typed_is : (c : Column) (v : Value) → c ≡ column_made column no_name no_name no_name → v ≡ given_made value → no_value value ≡ None →
      write_value (column_told buffer c) (value_told buffer v) ≡ value_given column value buffer
  typed_is c v x y n = rw (n, column_is buffer column c x, y, value_told_lem buffer (get_or value 0 0) (get_or value 1 0) (get_or value 2 0))

  pub typed_not : (e : Refusal) → Some e ≡ no_value value → refuses e ≡ value_given column value buffer
  typed_not e n = rw (← n)

-- ---- read

module _ (column s : List ℕ) (at : ℕ) (room : List ℕ) (c : Column) (x : c ≡ column_made column no_name no_name no_name) where
  is : column_told [] c ≡ column_of column no_names
  is = column_is [] column c x

  pub value_is : (told read : Read Found) → told ≡ read → told ≡ found_out (column_told [] c) s at room → map_read slot_of read ≡ value_at column s at room
  value_is told read t h = ap (map_read slot_of) (sym t ∙ (h ∙ ap (λ (d : D.Column). found_out d s at room) is))

  pub room_is : (new : List ℕ) → new ≡ room_out (column_told [] c) s at room → new ≡ room_at column s at room
  room_is new h = h ∙ ap (λ (d : D.Column). room_out d s at room) is
