-- No value takes more than `most_of` bytes, so that the sizes of 1,024 values do not leave a number of 64 bits.
-- Why it holds: a scalar has at most sixteen bytes; content that was not refused as too long is no longer than its declared length, which rule 6 keeps below
-- 256 to the fourth, or than the PLP bound; what a form puts around it has at most sixteen bytes.
-- Assumes nothing.
use Rattle.std.specs.Prelude.{None, Option, Some}
use mathlib.Core.Path.{◌≡◌, refl}
use mathlib.Core.Bool.{Bool, true, false, not}
use mathlib.Core.List.{List, [], ◌∷◌}
use Prim.Native.Nat.{ℕ, ◌+◌, ◌<◌, ◌≤◌, ◌^◌}
use native.Mathlib.Omega.{arith}
use lib.ListN.{length, length-append}
use lib.Dec.{ltb, eqb}
use borrow.Author.Tests.{ltb-false, not-false}
use Rattle.lists.specs.Pick.{pick}
use Rattle.format.specs.Answer.{Answer, gives, refuses, kind, long, rule, not_carried, Part, inside, outside, missing, and_then, wrote}
use Rattle.format.specs.Text.{text_in}
use Rattle.format.specs.Descriptor as D
use Rattle.format.specs.Scalar.{Kind, width, kind_of, scalar_bytes}
use Rattle.format.specs.Plp.{plp_mark, plp_bound, plp_bytes}
use Rattle.format.specs.Value.{Given, Family, fixed_width, length_byte, content, family_of, content_bound, encode_content, encode_in, kind_fits, string_of}
use Rattle.format.specs.Value.{value_of, too_long, bounded, write_family, write_value}
use Rattle.format.specs.Value as Values
use Rattle.format.specs.Number.{low_bytes}
use Rattle.format.specs.Answer.{part}
use Rattle.format.proofs.Answer.{no_gives, passed, and_took}
use Rattle.wire.proofs.Writing.{count_is, not_refused}
use Rattle.value_kind.specs.declared.Value.{Value}
use Rattle.value_kind.specs.declared.Value.TheVariants as W
use Rattle.value_kind.specs.Told.{scalar_told, value_told}
use Rattle.value_kind.proofs.ScalarLaws.{length-bytes}
use Rattle.value_kind.proofs.ColumnLaws.{length_fits_lem}
use Rattle.row_step.specs.Steps.{most_of}

-- a scalar's bytes
wide : (k : Kind) → width k ≤ 16
wide Kind.bit = omega arith
wide Kind.u8 = omega arith
wide Kind.i16 = omega arith
wide Kind.i32 = omega arith
wide Kind.i64 = omega arith
wide Kind.f32 = omega arith
wide Kind.f64 = omega arith
wide Kind.guid = omega arith

-- a value whose scalar has at most sixteen bytes
abbrev Short : Values.Value → Type 0
Short Values.Value.null = Unit {0}
Short (Values.Value.scalar x) = length (scalar_bytes x) ≤ 16
Short (Values.Value.binary s) = Unit {0}
Short (Values.Value.string s) = Unit {0}

-- content in the PLP form, and in either form
plp_length : (s : List ℕ) → length (plp_bytes (Some s)) ≤ length s + 16
unfolding plp_bytes
plp_length [] = omega arith
plp_length (b ∷ bs) = omega (arith, length-append bs (low_bytes 4 0))

module _ (n : ℕ) (h : n < 256 ^ 4) where
  bound-below : (b : Bool) → pick b plp_bound n ≤ 4294967296
  unfolding plp_bound
  bound-below true = omega arith
  bound-below false = omega arith

  content-below : (s : List ℕ) → ltb (content_bound n) (length s) ≡ false → length (encode_content n (Some s)) ≤ most_of
  content-below s e = go (eqb n plp_mark)
    where
      go : (b : Bool) → length (pick b (plp_bytes (Some s)) (Values.short_bytes s)) ≤ most_of
      go true = omega (arith, plp_length s, ltb-false (content_bound n) (length s) e, bound-below (eqb n plp_mark))
      go false = omega (arith, ltb-false (content_bound n) (length s) e, bound-below (eqb n plp_mark))

  null-below : (b : Bool) → length (pick b (plp_bytes None) (low_bytes 2 Values.short_null)) ≤ most_of
  unfolding plp_bytes
  null-below true = omega arith
  null-below false = omega arith

  encode-below : (f : Family) (v : Values.Value) → Short v → too_long n f v ≡ false → length (encode_in n f v) ≤ most_of
  encode-below (fixed_width k) Values.Value.null s e = omega arith
  encode-below (fixed_width k) (Values.Value.scalar x) s e = omega arith
  encode-below (fixed_width k) (Values.Value.binary t) s e = omega arith
  encode-below (fixed_width k) (Values.Value.string t) s e = omega arith
  encode-below (length_byte ks) Values.Value.null s e = omega arith
  encode-below (length_byte ks) (Values.Value.scalar x) s e = omega arith
  encode-below (length_byte ks) (Values.Value.binary t) s e = omega arith
  encode-below (length_byte ks) (Values.Value.string t) s e = omega arith
  encode-below (content k) Values.Value.null s e = null-below (eqb n plp_mark)
  encode-below (content k) (Values.Value.scalar x) s e = omega arith
  encode-below (content k) (Values.Value.binary t) s e = content-below t e
  encode-below (content k) (Values.Value.string t) s e = content-below t e

-- what a value to be written stands for
short-string : (a : Answer (List ℕ)) (v : Values.Value) → string_of a ≡ gives v → Short v
short-string (gives s) v h = let p : Values.Value.string s ≡ v = cc in rw (← p) tt
short-string (refuses e) v h = no_gives e v h

short-part : (p : Part) (v : Values.Value) → value_of (Given.string p) ≡ gives v → Short v
short-part (inside s) v h = short-string (text_in s) v h
short-part outside v h = no_gives missing v h

short-binary : (p : Part) (v : Values.Value) → value_of (Given.binary p) ≡ gives v → Short v
short-binary (inside s) v h = let p : Values.Value.binary s ≡ v = cc in rw (← p) tt
short-binary outside v h = no_gives missing v h

stands-short : (buffer : List ℕ) (d : Value) (v : Values.Value) → value_of (value_told buffer d) ≡ gives v → Short v
stands-short buffer W.Null v h = let p : Values.Value.null ≡ v = cc in rw (← p) tt
stands-short buffer (W.Scalar s) v h =
    let p : Values.Value.scalar (scalar_told s) ≡ v = cc in
    let l : length (scalar_bytes (scalar_told s)) ≤ 16 = rw (length-bytes s) (wide (kind_of (scalar_told s))) in
    rw (← p) l
stands-short buffer (W.Binary p) v h = short-binary (part buffer p.start p.count) v h
stands-short buffer (W.String p) v h = short-part (part buffer p.start p.count) v h

module _ (buffer : List ℕ) (c : D.Column) (d : Value) where
  abbrev g : Given
  g = value_told buffer d

  family_below : (bytes : List ℕ) → c.length < 256 ^ 4 → (f : Option Family) → write_family c.length f g ≡ gives bytes → length bytes ≤ most_of
  family_below bytes k None h = no_gives not_carried bytes h
  family_below bytes k (Some f) h =
      let p = passed (not (kind_fits f g)) kind (and_then (value_of g) (bounded c.length f)) bytes h in
      let q = and_took (value_of g) (bounded c.length f) bytes p.1 in
      let r = passed (too_long c.length f q.0) long (gives (encode_in c.length f q.0)) bytes q.2 in
      let e : encode_in c.length f q.0 ≡ bytes = cc r.1 in
      rw (← e) (encode-below c.length k f q.0 (stands-short buffer d q.0 q.1) r.0)

  pub most : (bytes : List ℕ) → write_value c g ≡ gives bytes → length bytes ≤ most_of
  unfolding write_value
  most bytes h =
      let p = passed (not (D.keeps_rule c)) rule (write_family c.length (family_of c.type) g) bytes h in
      family_below bytes (length_fits_lem c (not-false (D.keeps_rule c) p.0)) (family_of c.type) p.1

  -- the same of an answered count
  pub most_wrote : (n : ℕ) → gives n ≡ wrote (write_value c g) → n ≤ most_of
  most_wrote n h = go (write_value c g) refl
    where
      go : (a : Answer (List ℕ)) → write_value c g ≡ a → n ≤ most_of
      go (gives bytes) e = rw (count_is (write_value c g) n bytes h e) (most bytes e)
      go (refuses x) e = not_refused x n (rw e at h)
