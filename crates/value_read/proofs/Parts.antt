-- Content that `read_value` says to stand in the input is what `handed_back` gives of the part that it names, and what `short_content` gives at the same place.
-- A value whose content stands in the input is not PLP, and its content is the bytes behind its two length bytes (format: Found).
-- Assumes nothing.
use Rattle.std.specs.Prelude.{Ok}
use mathlib.Core.Path.{◌≡◌, refl, sym, ◌∙◌}
use mathlib.Core.Bool.{Bool, true, false}
use mathlib.Core.List.{List}
use Prim.Native.Nat.{ℕ, ◌+◌}
use lib.ListN.{length}
use Rattle.lists.specs.Pick.{pick}
use Rattle.lists.proofs.Split.{clash}
use Rattle.format.specs.Answer.{took, map_read, read_at}
use Rattle.format.specs.Descriptor as D
use Rattle.format.specs.Value.{Value, ContentKind, read_value, content_of, is_plp, copied_out}
use Rattle.format.specs.Found as F
use Rattle.format.specs.Found.{handed_back}
use Rattle.format.proofs.Place.{map-took}
use Rattle.format.proofs.Found.{input_handed, read_fits}
use Rattle.wire.specs.declared.Cursor.{Cursor}
use Rattle.column_type.specs.declared.Column.{Column}
use Rattle.column_type.specs.Told.{column_told}
use Rattle.value_kind.specs.declared.Span.{Span}
use Rattle.value_found.specs.declared.Stand.TheVariants as St
use Rattle.value_found.specs.declared.Found.TheVariants as Fo
use Rattle.value_found.specs.Told.{content_found}
use Rattle.value_part.specs.Told.{short_content}
use Rattle.value_read.specs.Told.{read_out}
use Rattle.value_read.proofs.Decided.{ReadsValue}

module _ (d : D.Column) (s : List ℕ) (at start count : ℕ) where
  -- a part of the input names no part of the room
  is_input : (b : Bool) (n : ℕ) → pick b (F.in_room 0 n) (F.in_input (at + 2) n) ≡ F.in_input start count → (b ≡ false) × (at + 2 ≡ start) × (n ≡ count)
  is_input true n e = clash cc
  is_input false n e = (refl, cc, cc)

  -- the content x of a value that was read
  content-part : (v : Value) (n : ℕ) (x : List ℕ) → read_at (read_value d) s at ≡ took v n → F.stand_of d at 0 x ≡ F.in_input start count
      → (is_plp d ≡ false → handed_back s (at + 2) (length x) ≡ x) → content_of v ≡ x → handed_back s start count ≡ short_content d s at
  unfolding short_content
  content-part v n x r e handed c =
      let i = is_input (is_plp d) (length x) e in
      let h : handed_back s start count ≡ x = rw (← i.1, ← i.2) (handed i.0) in
      h ∙ rw (i.0, r) (sym c)

  part_is : (k : ContentKind) (v : Value) (n : ℕ) → read_at (read_value d) s at ≡ took v n → F.found_of d at 0 v ≡ content_found k (F.in_input start count)
      → handed_back s start count ≡ short_content d s at
  part_is ContentKind.binary Value.null n r e = clash cc
  part_is ContentKind.binary (Value.scalar x) n r e = clash cc
  part_is ContentKind.binary (Value.binary x) n r e =
      content-part (Value.binary x) n x r (cc) (λ t. input_handed d s at (Value.binary x) n r x refl t) refl
  part_is ContentKind.binary (Value.string x) n r e = clash cc
  part_is ContentKind.string Value.null n r e = clash cc
  part_is ContentKind.string (Value.scalar x) n r e = clash cc
  part_is ContentKind.string (Value.binary x) n r e = clash cc
  part_is ContentKind.string (Value.string x) n r e =
      content-part (Value.string x) n x r (cc) (λ t. input_handed d s at (Value.string x) n r x refl t) refl

  found_part : (k : ContentKind) (size n : ℕ) → took (content_found k (F.in_input start count)) n ≡ map_read (F.found_of d at 0) (read_out d s at size)
      → handed_back s start count ≡ short_content d s at
  found_part k size n h =
      let p = map-took (F.found_of d at 0) (read_out d s at size) (content_found k (F.in_input start count)) n (sym h) in
      part_is k p.0 n (read_fits (copied_out d) size (read_at (read_value d) s at) p.0 n p.1) p.2

-- of the calls: what `handed_back` gives of the part that `read_value` names is what `short_content` gives
module _ (c : Column) (s : List ℕ) (at : ℕ) (out after : List ℕ) (p : Span) (next : Cursor) (names : List ℕ) where
  pub binary-part : ReadsValue c s at out (Ok ((Fo.Binary (St.Input p)), next)) after
      → handed_back s p.start p.count ≡ short_content (column_told names c) s at
  binary-part r = found_part (column_told names c) s at p.start p.count ContentKind.binary (length out) next.at (r.told names)

  pub string-part : ReadsValue c s at out (Ok ((Fo.String (St.Input p)), next)) after
      → handed_back s p.start p.count ≡ short_content (column_told names c) s at
  string-part r = found_part (column_told names c) s at p.start p.count ContentKind.string (length out) next.at (r.told names)
