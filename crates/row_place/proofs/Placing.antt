-- A value at a place, and the place behind it, case by case.
-- A null, a scalar and short content copy nothing, so that they need no room and the count of copied bytes stays. PLP content counts as many more as its chunks
-- join to, and is refused only where no room could hold them.
-- Assumes nothing.
use Rattle.std.specs.Prelude.{None, Option, Some}
use mathlib.Core.Path.{◌≡◌, refl, ap, sym, ◌∙◌}
use mathlib.Core.Bool.{Bool, true, false}
use mathlib.Core.List.{List, []}
use Prim.Native.Nat.{ℕ, ◌+◌, ◌-◌, ◌<◌, ◌≤◌}
use native.Mathlib.Nat.{add-zero}
use native.Mathlib.Omega.{arith}
use lib.Dec.{ltb}
use lib.ListN.{length, take, drop, length-drop}
use lib.Seq.{length-take-le}
use borrow.Author.Tests.{lt-ltb, le-ltb}
use Rattle.format.specs.Answer.{Refusal, room, missing, rule, Read, took, stops, map_read, read_at, fitted_read}
use Rattle.format.specs.Descriptor as D
use Rattle.format.specs.Scalar.{Scalar}
use Rattle.format.specs.Plp.{read_plp}
use Rattle.format.specs.Descriptor.{keeps_rule}
use Rattle.format.specs.Value.{Value, ContentKind, Family, family_of, is_text, content_value, is_plp, read_family, read_value, copied_out}
use Rattle.format.specs.Found as F
use Rattle.format.proofs.Place.{map-took, at_behind}
use Rattle.format.proofs.Opening.{stays_plp}
use Rattle.plp_join.specs.Told.{counted, content_in}
use Rattle.plp_join.proofs.Joining.{counted-null, counted-stops, counted-content}
use Rattle.value_kind.proofs.ColumnLaws.{read-broken, read_kept}
use Rattle.value_found.specs.Told.{content_found, behind}
use Rattle.value_found.proofs.Finding.{no_content, none_copied, copies, stands-input, stands-room}
use Rattle.row_place.specs.Told.{Placed, placed_of, most_room, placed_at, placed_behind}

-- a PLP value that was judged ends inside
pub plp_inside : (text : Bool) (rest : List ℕ) (o : Option ℕ) (n : ℕ) → took o n ≡ map_read counted (read_plp text rest) → n ≤ length rest
plp_inside text rest o n h = let p = map-took counted (read_plp text rest) o n (sym h) in stays_plp text rest p.0 n p.1

module _ (c : D.Column) (at copied : ℕ) where
  abbrev left : ℕ
  left = most_room - copied

  -- a value that copies nothing
  kept : (v : Value) (n : ℕ) → copied_out c v ≡ []
      → took (record { found = F.found_of c at copied v; copied = copied }) (at + n) ≡ placed_behind c (took v n) at copied
  unfolding fitted_read
  kept v n e =
      let t : ltb left 0 ≡ false = le-ltb left 0 (omega arith) in
      rw (e, t, e, add-zero copied)

  pub null-placed : (r : Read Value) (n : ℕ) → took Value.null n ≡ r
      → took (record { found = F.Found.null; copied = copied }) (at + n) ≡ placed_behind c r at copied
  null-placed r n e = kept Value.null n (no_content c Value.null refl) ∙ ap (λ (x : Read Value). placed_behind c x at copied) e

  pub scalar-placed : (r : Read Value) (v : Scalar) (n : ℕ) → took (Value.scalar v) n ≡ r
      → took (record { found = F.Found.scalar v; copied = copied }) (at + n) ≡ placed_behind c r at copied
  scalar-placed r v n e = kept (Value.scalar v) n (no_content c (Value.scalar v) refl) ∙ ap (λ (x : Read Value). placed_behind c x at copied) e

  pub stops-placed : (r : Read Value) (d : Refusal) → stops d ≡ r → stops d ≡ placed_behind c r at copied
  unfolding fitted_read
  stops-placed r d e = ap (λ (x : Read Value). placed_behind c x at copied) e

  -- content behind the two length bytes
  pub part_placed : is_plp c ≡ false → (r : Read Value) (k : ContentKind) (rest : List ℕ) (start count : ℕ) → start ≡ 2 → start + count ≤ length rest
      → took (content_value k (Some (take count (drop start rest)))) (start + count) ≡ r
      → (found : F.Found) → found ≡ content_found k (F.in_input (at + start) count)
      → took (record { found = found; copied = copied }) (at + (start + count)) ≡ placed_behind c r at copied
  part_placed t r k rest start count two inside e found is =
      let s = take count (drop start rest) in
      let l : length s ≡ count = length-take-le count (drop start rest) (omega (arith, length-drop start rest)) in
      let f : found ≡ F.found_of c at copied (content_value k (Some s)) = is ∙ sym (stands-input c at copied t k s ∙ rw (l, two)) in
      ap (λ (x : F.Found). took (record { found = x; copied = copied }) (at + (start + count))) f
      ∙ (kept (content_value k (Some s)) (start + count) (none_copied c t (content_value k (Some s))) ∙ ap (λ (x : Read Value). placed_behind c x at copied) e)

  -- PLP content, by what was judged of it
  module _ (t : is_plp c ≡ true) (k : ContentKind) (rest : List ℕ) where
    abbrev plp : Read (Option (List ℕ))
    plp = read_plp (is_text k) rest

    abbrev asked : Read Placed
    asked = placed_behind c (map_read (content_value k) plp) at copied

    pub plp_null_lem : took None 8 ≡ map_read counted plp → took (record { found = F.Found.null; copied = copied }) (at + 8) ≡ asked
    plp_null_lem h = null-placed (map_read (content_value k) plp) 8 (ap (map_read (content_value k)) (sym (counted-null plp 8 (sym h))))

    pub plp_stops : (d : Refusal) → stops d ≡ map_read counted plp → stops d ≡ asked
    plp_stops d h = stops-placed (map_read (content_value k) plp) d (ap (map_read (content_value k)) (sym (counted-stops plp d (sym h))))

    module _ (count end : ℕ) (h : took (Some count) end ≡ map_read counted plp) where
      -- the content that was counted
      abbrev content : List ℕ
      content = content_in plp

      long_as : length content ≡ count
      long_as = (counted-content plp count end (sym h)).long

      joined : asked ≡ placed_behind c (took (content_value k (Some content)) end) at copied
      joined =
          ap (λ (x : Read (Option (List ℕ))). placed_behind c (map_read (content_value k) x) at copied) (counted-content plp count end (sym h)).content

      -- more than any room holds
      pub plp_long : left < count → stops room ≡ asked
      unfolding fitted_read
      plp_long l =
          let u : ltb left count ≡ true = lt-ltb left count l in
          sym (joined ∙ rw (copies c t k (Some content), long_as, u))

      pub plp_placed : count ≤ left → (found : F.Found) → found ≡ content_found k (F.in_room copied count)
          → took (record { found = found; copied = copied + count }) (at + end) ≡ asked
      unfolding fitted_read
      plp_placed l found is =
          let u : ltb left count ≡ false = le-ltb left count l in
          let f = stands-room c at copied t k (Some content) in
          let d = copies c t k (Some content) in
          sym (joined ∙ rw (d, long_as, u, f, d, long_as, is))

-- ---- at a place of the input: behind the end 1, then rule 6, then what was read of the rest

module _ (c : D.Column) (s : List ℕ) (at copied : ℕ) where
  refused : (e : Refusal) → read_at (read_value c) s at ≡ stops e → stops e ≡ placed_at c s at copied
  unfolding fitted_read
  refused e h = rw h

  pub place_behind_lem : length s < at → stops missing ≡ placed_at c s at copied
  place_behind_lem h = refused missing (at_behind (read_value c) s at h)

  module _ (h : at ≤ length s) where
    pub place-broken : keeps_rule c ≡ false → stops rule ≡ placed_at c s at copied
    place-broken k = refused rule (read-broken c s at h k)

    pub place_kept : keeps_rule c ≡ true → (declared : ℕ) (f : Option Family) (rest : List ℕ) (told : Read Placed)
        → c.length ≡ declared → f ≡ family_of c.type → rest ≡ drop at s → told ≡ placed_behind c (read_family declared f rest) at copied
        → told ≡ placed_at c s at copied
    place_kept k declared f rest told l g r e =
        e ∙ ap (λ (x : Read Value). map_read (placed_of c at copied) (fitted_read (copied_out c) x (most_room - copied)))
        (sym (read_kept c s at h k declared f rest l g r))
