-- An answer other than refusal 1 does not change when more bytes follow the input: of a row read into a room and a list of numbers, and of what the list holds.
-- So a caller whose rows arrive in pieces waits on refusal 1 alone.
-- Assumes nothing.
use mathlib.Core.Path.{◌≡◌, refl, sym, ap, ◌∙◌}
use mathlib.Core.List.{List, [], ◌∷◌, ◌++◌}
use Prim.Native.Nat.{ℕ, ◌*◌, ◌+◌}
use lib.Dec.{ltb}
use lib.ListN.{length, drop}
use Rattle.lists.proofs.Split.{clash}
use Rattle.format.specs.Answer.{Read, took, stops, missing, room, read_at}
use Rattle.format.specs.Descriptor as D
use Rattle.format.specs.Value.{Value, read_value, copied_out}
use Rattle.format.specs.Row.{read_values, read_row, copied_out_row}
use Rattle.format.specs.Found as F
use Rattle.format.specs.Found.{found_row}
use Rattle.format.proofs.Found.{read_fits, columns, first_then}
use Rattle.format.proofs.Place.{past}
use Rattle.format.proofs.More.{steady_at, steady_fitted}
use Rattle.format.proofs.MoreReaders.{stream_value, stream_row}
use Rattle.packed_slot.specs.Slots.{slots_of}
use Rattle.packed_read.specs.Told.{slotted, row_out, values_after}

-- what is found of a row that was read
found_more : (cs : List D.Column) (s more : List ℕ) (at copied : ℕ) (vs : List Value) (next : ℕ) → read_at (read_values cs) s at ≡ took vs next
    → found_row cs (s ++ more) at copied ≡ found_row cs s at copied
unfolding found_row
found_more [] s more at copied vs next h = refl
found_more (d ∷ ds) s more at copied vs next h =
    let t = first_then d ds s at vs next h in
    let longer = steady_at (read_value d) at (stream_value d).steady s more (λ e. clash (cc (sym t.3 ∙ e))) ∙ t.3 in
    rw (longer, t.3)
    (ap (λ (fs : List F.Found). F.found_of d at copied t.0 ∷ fs) (found_more ds s more t.1 (copied + length (copied_out d t.0)) t.2 next t.4))

-- a row whose numbers have place was read
slotted-took : (n numbers : ℕ) (r : Read (List Value)) (vs : List Value) (next : ℕ) → slotted n numbers r ≡ took vs next → r ≡ took vs next
slotted-took n numbers (took ws m) vs next h = (past (ltb numbers (3 * n)) room (took ws m) vs next h).1
slotted-took n numbers (stops e) vs next h = h

module _ (cs : List D.Column) (s more : List ℕ) (at size numbers : ℕ) (h : row_out cs s at size numbers ≡ stops missing → ⊥) where
  -- the answer, and with it the room
  pub more_row : row_out cs (s ++ more) at size numbers ≡ row_out cs s at size numbers
  more_row =
      ap (slotted (length cs) numbers)
      (steady_fitted (copied_out_row cs) (λ (l : List ℕ). read_at (read_row cs) l at) size (steady_at (read_row cs) at (stream_row cs).steady) s more
      (λ e. h (ap (slotted (length cs) numbers) e)))

  -- the list of numbers
  pub more_values : (before : List ℕ)
      → values_after cs (s ++ more) at (row_out cs (s ++ more) at size numbers) before ≡ values_after cs s at (row_out cs s at size numbers) before
  more_values before = go (row_out cs s at size numbers) refl
    where
      go : (r : Read (List Value)) → row_out cs s at size numbers ≡ r
          → values_after cs (s ++ more) at (row_out cs (s ++ more) at size numbers) before ≡ values_after cs s at (row_out cs s at size numbers) before
      go (took vs next) e =
          let r = read_fits (copied_out_row cs) size (read_at (read_row cs) s at) vs next (slotted-took (length cs) numbers _ vs next e) in
          let found = found_more cs s more at 0 vs next (columns cs s at vs next [] r) in
          rw (more_row, e) (ap (λ (fs : List F.Found). slots_of fs ++ drop (3 * length cs) before) found)
      go (stops x) e = rw (more_row, e) refl
