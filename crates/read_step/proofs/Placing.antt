-- One value's content into the room, behind what was copied before. The value is known to be there and its content to fit, so that nothing is refused.
-- Why it holds: the reader of a value behind a place leaves the room up to what was copied, and puts the content there; what it found says how many bytes.
-- Assumes nothing.
use Rattle.std.specs.Prelude.{Option}
use mathlib.Core.Path.{◌≡◌, refl, sym, ap, ◌∙◌}
use mathlib.Core.Bool.{Bool, true, false, not}
use mathlib.Core.List.{List, [], ◌++◌}
use Prim.Native.Nat.{ℕ, ◌+◌, ◌-◌, ◌≤◌}
use native.Mathlib.Omega.{arith}
use lib.Dec.{ltb}
use lib.ListN.{length, take, drop}
use lib.Seq.{drop-drop}
use borrow.Author.Tests.{le-ltb, not-false}
use Rattle.lists.specs.Pick.{pick}
use Rattle.lists.specs.Put.{put_at}
use Rattle.lists.proofs.Split.{clash}
use Rattle.format.specs.Answer.{Refusal, rule, Read, took, stops, map_read, read_at, fitted_read, room_after_read}
use Rattle.format.specs.Descriptor as D
use Rattle.format.specs.Descriptor.{keeps_rule}
use Rattle.format.specs.Value.{Value, Family, family_of, is_plp, read_family, read_value, copied_out}
use Rattle.format.specs.Found as F
use Rattle.format.proofs.Place.{past, took_at}
use Rattle.value_kind.proofs.ColumnLaws.{read_kept}
use Rattle.value_found.specs.Told.{found_behind, room_behind}
use Rattle.row_place.specs.Told.{Placed, placed_of}
use Rattle.read_step.specs.Told.{Place}
use Rattle.value_found.specs.Told.{in_room, room_count}
use Rattle.read_step.specs.Steps.{copied_in, place_behind, FitsAt}

-- what was found says how many bytes were copied out
module _ (c : D.Column) (at copied : ℕ) where
  stand_count : (s : List ℕ) → in_room (F.stand_of c at copied s) ≡ length (pick (is_plp c) s [])
  stand_count s = go (is_plp c)
    where
      go : (b : Bool) → in_room (pick b (F.in_room copied (length s)) (F.in_input (at + 2) (length s))) ≡ length (pick b s [])
      go true = refl
      go false = refl

  none_count : 0 ≡ length (pick {A = List ℕ} (is_plp c) [] [])
  none_count = go (is_plp c)
    where
      go : (b : Bool) → 0 ≡ length (pick {A = List ℕ} b [] [])
      go true = refl
      go false = refl

  found-count : (v : Value) → room_count (F.found_of c at copied v) ≡ length (copied_out c v)
  unfolding copied_out
  found-count Value.null = none_count
  found-count (Value.scalar v) = none_count
  found-count (Value.binary s) = stand_count s
  found-count (Value.string s) = stand_count s

module _ (c : D.Column) (s out : List ℕ) (at copied : ℕ) (fits : FitsAt c (read_at (read_value c) s at) copied (length out)) where
  -- the value that is there
  record There : Type 0 where
    pub value : Value
    pub next : ℕ
    pub read : read_at (read_value c) s at ≡ took value next
    pub room : copied + length (copied_out c value) ≤ length out
    pub inside : at ≤ length s
    pub kept : keeps_rule c ≡ true

  rule_of : (v : Value) (n : ℕ) → read_value c (drop at s) ≡ took v n → keeps_rule c ≡ true
  unfolding read_value
  rule_of v n h = not-false (keeps_rule c) (past (not (keeps_rule c)) rule _ v n h).0

  there : There
  there = go (read_at (read_value c) s at) refl fits
    where
      go : (r : Read Value) → read_at (read_value c) s at ≡ r → FitsAt c r copied (length out) → There
      go (took v next) e f =
          let t = took_at (read_value c) s at v next e in
          record { value = v; next = next; read = e; room = f; inside = t.0; kept = rule_of v t.1 t.2 }
      go (stops d) e f = absurd f

  pub is_inside : at ≤ length s
  is_inside = there.inside

  pub is_kept : keeps_rule c ≡ true
  is_kept = there.kept

  pub is_room : copied ≤ length out
  is_room = omega (arith, there.room)

  -- what the reader says of the rest, under the column's family and declared length
  module _ (declared : ℕ) (f : Option Family) (rest : List ℕ) (l : c.length ≡ declared) (g : f ≡ family_of c.type) (r : rest ≡ drop at s) where
    left : ltb (length out - copied) (length (copied_out c there.value)) ≡ false
    left = le-ltb (length out - copied) (length (copied_out c there.value)) (omega (arith, there.room))

    found_there : found_behind c (read_family declared f rest) at copied out ≡ took (F.found_of c at copied there.value) there.next
    unfolding fitted_read
    found_there =
        let e = sym (read_kept c s at there.inside there.kept declared f rest l g r) ∙ there.read in
        ap (λ (x : Read Value). map_read (F.found_of c at copied) (fitted_read (copied_out c) x (length out - copied))) e ∙ rw left

    room_there : room_behind c (read_family declared f rest) at copied out ≡ put_at out copied (copied_out c there.value)
    unfolding fitted_read room_after_read put_at
    room_there =
        let e = sym (read_kept c s at there.inside there.kept declared f rest l g r) ∙ there.read in
        let d = drop-drop (length (copied_out c there.value)) copied out in
        ap (λ (x : Read Value). take copied out ++ room_after_read (copied_out c) (fitted_read (copied_out c) x (length out - copied)) (drop copied out)) e
        ∙ rw (left, d)

    -- it is not refused
    pub not_refused : {P : Type 0} (e : Refusal) → stops e ≡ found_behind c (read_family declared f rest) at copied out → P
    not_refused e h = clash (cc (h ∙ found_there))

    module _ (found : F.Found) (next : ℕ) (h : took found next ≡ found_behind c (read_family declared f rest) at copied out) where
      count_there : room_count found ≡ length (copied_out c there.value)
      count_there =
          let e : found ≡ F.found_of c at copied there.value = cc (h ∙ found_there) in
          ap room_count e ∙ found-count c at copied there.value

      pub count_fits : copied + room_count found ≤ length out
      count_fits = omega (arith, count_there, there.room)

      pub placed_there : took (record { found = found; copied = copied + room_count found }) next ≡ map_read (placed_of c at copied)
          (read_at (read_value c) s at)
      placed_there =
          let e : next ≡ there.next = cc (h ∙ found_there) in
          let f : found ≡ F.found_of c at copied there.value = cc (h ∙ found_there) in
          rw (there.read, e, count_there, f)

    pub room_holds : (after : List ℕ) → after ≡ room_behind c (read_family declared f rest) at copied out
        → after ≡ put_at out copied (copied_in c (read_at (read_value c) s at))
    room_holds after h = h ∙ (room_there ∙ rw there.read)

-- the place behind a value that was taken
pub place_behind_lem : (c : D.Column) (at copied : ℕ) (r : Read Value) (p : Placed) (next : ℕ) → took p next ≡ map_read (placed_of c at copied) r
    → ◌≡◌ {A = Place} (record { at = next; copied = p.copied }) (place_behind c r (record { at = at; copied = copied }))
place_behind_lem c at copied (took v n) p next h =
    let e : next ≡ n = cc in
    let f : p ≡ placed_of c at copied v = cc in
    rw (e, f)
place_behind_lem c at copied (stops e) p next h = clash cc

-- none is refused
pub never_refused : {P : Type 0} (c : D.Column) (at copied size : ℕ) (r : Read Value) (e : Refusal) → FitsAt c r copied size
    → stops e ≡ map_read (placed_of c at copied) r → P
never_refused c at copied size (took v n) e f h = clash cc
never_refused c at copied size (stops x) e f h = absurd f
