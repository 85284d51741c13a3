-- The part that a span names, and short content at a place as a part of the input. What was seen of the rest tells its value, so the part that was seen is
-- that value's content; a null, a scalar and a refusal have none.
-- Assumes nothing.
use Rattle.std.specs.Prelude.{Err, Ok, Result, Option, Some}
use mathlib.Core.Path.{◌≡◌, refl, ap, sym, ◌∙◌}
use mathlib.Core.Bool.{Bool, true, false}
use mathlib.Core.List.{List, []}
use Prim.Native.Nat.{ℕ, ◌+◌, ◌<◌, ◌≤◌}
use native.Mathlib.Omega.{arith}
use lib.Dec.{ltb}
use lib.ListN.{length, take, drop, length-drop}
use lib.Seq.{drop-drop}
use borrow.Author.Tests.{lt-ltb, le-ltb}
use Rattle.lists.specs.Pick.{pick}
use Rattle.format.specs.Answer.{further, read_at, inside, outside, part}
use Rattle.format.specs.Descriptor as D
use Rattle.format.specs.Descriptor.{keeps_rule}
use Rattle.format.specs.Value.{ContentKind, Family, family_of, content_value, read_family, read_value, content_of, is_plp}
use Rattle.format.specs.Found.{handed_back, part_or_empty}
use Rattle.format.proofs.Place.{at_behind}
use Rattle.value_kind.specs.Told.{content_kind_told}
use Rattle.value_kind.proofs.ColumnLaws.{read-broken, read_kept}
use Rattle.value_look.specs.declared.Seen.{Seen}
use Rattle.value_look.specs.declared.Seen.TheVariants as L
use Rattle.value_look.specs.Told.{seen_told, Lies}
use Rattle.value_part.specs.Told.{content_read, short_content, part_seen}
use Rattle.wire.specs.declared.Refusal.{Refusal}

-- ---- the part that is handed back

module _ (s : List ℕ) (start count : ℕ) where
  pub handed_inside : start + count ≤ length s → take count (drop start s) ≡ handed_back s start count
  unfolding handed_back part
  handed_inside h = rw (le-ltb (length s) (start + count) h)

  pub handed_outside : length s < start + count → [] ≡ handed_back s start count
  unfolding handed_back part
  handed_outside h = rw (lt-ltb (length s) (start + count) h)

handed_none : (s : List ℕ) (start : ℕ) → handed_back s start 0 ≡ []
unfolding handed_back part
handed_none s start = go (ltb (length s) (start + 0))
  where
    go : (b : Bool) → part_or_empty (pick b outside (inside [])) ≡ []
    go true = refl
    go false = refl

-- ---- short content

of_content : (k : ContentKind) (x : List ℕ) → content_of (content_value k (Some x)) ≡ x
of_content ContentKind.binary x = refl
of_content ContentKind.string x = refl

module _ (c : D.Column) (s : List ℕ) (at : ℕ) where
  -- where the value has no content, and where it is PLP
  none_short : content_read (read_at (read_value c) s at) ≡ [] → [] ≡ short_content c s at
  unfolding short_content
  none_short e = go (is_plp c)
    where
      go : (b : Bool) → [] ≡ pick b [] (content_read (read_at (read_value c) s at))
      go true = refl
      go false = sym e

  none_plp : is_plp c ≡ true → [] ≡ short_content c s at
  unfolding short_content
  none_plp t = rw t

  pub short-behind : length s < at → [] ≡ short_content c s at
  short-behind h = none_short (ap content_read (at_behind (read_value c) s at h))

  pub short-broken : at ≤ length s → keeps_rule c ≡ false → [] ≡ short_content c s at
  short-broken h k = none_short (ap content_read (read-broken c s at h k))

  -- what was seen of the rest, under the column's family and declared length
  module _ (h : at ≤ length s) (k : keeps_rule c ≡ true) (declared : ℕ) (f : Option Family) (rest : List ℕ) (l : c.length ≡ declared)
      (g : f ≡ family_of c.type) (r : rest ≡ drop at s) where
    read_seen : (x : Result Seen Refusal) → seen_told rest x ≡ read_family declared f rest → read_at (read_value c) s at ≡ further at (seen_told rest x)
    read_seen x e = read_kept c s at h k declared f rest l g r ∙ ap (further at) (sym e)

    pub short_seen : (x : Result Seen Refusal) → seen_told rest x ≡ read_family declared f rest → Lies declared rest x
        → handed_back s (at + (part_seen x).start) (part_seen x).count ≡ short_content c s at
    unfolding short_content
    short_seen (Ok (L.Null n)) e i = handed_none s (at + 0) ∙ none_short (ap content_read (read_seen (Ok (L.Null n)) e))
    short_seen (Ok (L.Scalar j m)) e i = handed_none s (at + 0) ∙ none_short (ap content_read (read_seen (Ok (L.Scalar j m)) e))
    short_seen (Ok (L.Part j start count)) e i =
        let d = ap content_read (read_seen (Ok (L.Part j start count)) e) ∙ of_content (content_kind_told j) (take count (drop start rest)) in
        let q : is_plp c ≡ false = rw l i.2 in
        let z : start + count ≤ length rest = i.1 in
        let y : at + start + count ≤ length s = omega (arith, ap length r, length-drop at s) in
        let w : drop start rest ≡ drop (at + start) s = ap (drop start) r ∙ drop-drop start at s in
        sym (handed_inside s (at + start) count y) ∙ rw (q, d, w)
    short_seen (Ok (L.Plp j)) e i = handed_none s (at + 0) ∙ none_plp (rw l i)
    short_seen (Err d) e i = handed_none s (at + 0) ∙ none_short (ap content_read (read_seen (Err d) e))

    -- the part that was seen lies inside
    pub seen_inside : (x : Result Seen Refusal) → Lies declared rest x → at + (part_seen x).start ≤ length s
    seen_inside (Ok (L.Null n)) i = omega arith
    seen_inside (Ok (L.Scalar j m)) i = omega arith
    seen_inside (Ok (L.Part j start count)) i = let z = i.1 in omega (arith, ap length r, length-drop at s)
    seen_inside (Ok (L.Plp j)) i = omega arith
    seen_inside (Err d) i = omega arith
