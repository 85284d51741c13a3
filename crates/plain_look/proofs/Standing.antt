-- Values of one width, under the columns that have them: what is read, and what is written for it. Kind by kind the definitions compute.
-- Assumes nothing.
use Rattle.std.specs.Prelude.{Some}
use mathlib.Core.Path.{◌≡◌, refl, sym, ap, ◌∙◌}
use mathlib.Core.Bool.{Bool, true, false}
use mathlib.Core.List.{List, [], ◌∷◌}
use Prim.Native.Nat.{ℕ, suc, ◌+◌, ◌<◌, ◌≤◌}
use native.Mathlib.Nat.{add_comm}
use native.Mathlib.Numerals.{add-one}
use native.Mathlib.Omega.{arith}
use lib.Dec.{eqb}
use lib.ListN.{length, get_or, take, drop, length-drop}
use lib.Seq.{length-take-le}
use borrow.Author.Tests.{le-ltb, ne_eqb}
use Rattle.lists.specs.Pick.{pick}
use Rattle.lists.proofs.Split.{clash}
use Rattle.format.specs.Answer.{Read, took, further, then_read, map_read, read_at}
use Rattle.format.specs.Number.{read_byte, read_bytes}
use Rattle.format.specs.Descriptor.{Column, keeps_rule}
use Rattle.format.specs.Scalar.{Kind, Scalar, width, kind_of, scalar_of, scalar_bytes, read_scalar}
use Rattle.format.specs.Value.{Value, read_value, content_of, is_plp, copied_out, encode}
use Rattle.format.proofs.Number.{Bytes}
use Rattle.format.proofs.Plain.{bytes_take, bytes_drop}
use Rattle.format.proofs.Place.{at_took}
use Rattle.value_form.proofs.Forming.{scalar_forth, kind_of_lem}
use Rattle.packed_plain.specs.Says.{bare_column, counted_column, IsBare}
use Rattle.value_kind.specs.declared.kinds.Kind as K
use Rattle.value_kind.specs.Told.{kind_told}
use Rattle.packed_plain.specs.declared.Plain.TheVariants as P
use Rattle.plain_look.specs.Stands.{Stands, scalar_in, IsWidth}

-- nothing is copied out
none_out : (c : Column) (v : Value) → content_of v ≡ [] → copied_out c v ≡ []
unfolding copied_out
none_out c v e = go (is_plp c)
  where
    go : (b : Bool) → pick b (content_of v) [] ≡ []
    go true = e
    go false = refl

-- ---- the bytes alone

bare-read : (k : Kind) → IsBare k → (s : List ℕ) → read_value (bare_column k) s ≡ map_read Value.scalar (read_scalar k s)
unfolding read_value keeps_rule
bare-read Kind.bit b s = refl
bare-read Kind.u8 b s = refl
bare-read Kind.i16 b s = refl
bare-read Kind.i32 b s = refl
bare-read Kind.i64 b s = refl
bare-read Kind.f32 b s = refl
bare-read Kind.f64 b s = refl
bare-read Kind.guid b s =
    let h = b.0 in
    clash cc

bare_write : (k : Kind) → IsBare k → (v : Scalar) → encode (bare_column k) (Value.scalar v) ≡ scalar_bytes v
unfolding encode
bare_write Kind.bit b v = refl
bare_write Kind.u8 b v = refl
bare_write Kind.i16 b v = refl
bare_write Kind.i32 b v = refl
bare_write Kind.i64 b v = refl
bare_write Kind.f32 b v = refl
bare_write Kind.f64 b v = refl
bare_write Kind.guid b v =
    let h = b.0 in
    clash cc

-- a scalar that is there
scalar_there : (k : Kind) (s : List ℕ) → width k ≤ length s → read_scalar k s ≡ took (scalar_of k (take (width k) s)) (width k)
unfolding read_scalar read_bytes
scalar_there k s h = rw (le-ltb (length s) (width k) h)

again : (k : Kind) (s : List ℕ) → (k ≡ Kind.bit → ⊥) → Bytes s → width k ≤ length s → scalar_bytes (scalar_of k (take (width k) s)) ≡ take (width k) s
again k s n b h = scalar_forth k (take (width k) s) n (bytes_take (width k) s b) (length-take-le (width k) s h)

pub bare-stands : (k : Kind) (s : List ℕ) → IsBare k → Bytes s → width k ≤ length s → Stands (bare_column k) s (scalar_in k s) (width k)
bare-stands k s i b h =
    record {
      read = bare-read k i s ∙ ap (map_read Value.scalar) (scalar_there k s h);
      same = bare_write k i (scalar_of k (take (width k) s)) ∙ again k s i.1 b h;
      inside = h;
      none = none_out (bare_column k) (scalar_in k s) refl;
    }

-- ---- behind a count

null-read : (k : Kind) (s : List ℕ) → read_value (counted_column k) (0 ∷ s) ≡ took Value.null 1
unfolding read_value keeps_rule then_read read_byte
null-read Kind.bit s = refl
null-read Kind.u8 s = refl
null-read Kind.i16 s = refl
null-read Kind.i32 s = refl
null-read Kind.i64 s = refl
null-read Kind.f32 s = refl
null-read Kind.f64 s = refl
null-read Kind.guid s = refl

null_write : (k : Kind) → encode (counted_column k) Value.null ≡ 0 ∷ []
unfolding encode
null_write Kind.bit = refl
null_write Kind.u8 = refl
null_write Kind.i16 = refl
null_write Kind.i32 = refl
null_write Kind.i64 = refl
null_write Kind.f32 = refl
null_write Kind.f64 = refl
null_write Kind.guid = refl

counted_read_lem : (k : Kind) (s : List ℕ) → read_value (counted_column k) (width k ∷ s) ≡ further 1 (map_read Value.scalar (read_scalar k s))
unfolding read_value keeps_rule then_read read_byte
counted_read_lem Kind.bit s = refl
counted_read_lem Kind.u8 s = refl
counted_read_lem Kind.i16 s = refl
counted_read_lem Kind.i32 s = refl
counted_read_lem Kind.i64 s = refl
counted_read_lem Kind.f32 s = refl
counted_read_lem Kind.f64 s = refl
counted_read_lem Kind.guid s = refl

counted_write : (k : Kind) (v : Scalar) → encode (counted_column k) (Value.scalar v) ≡ width (kind_of v) ∷ scalar_bytes v
unfolding encode
counted_write Kind.bit v = refl
counted_write Kind.u8 v = refl
counted_write Kind.i16 v = refl
counted_write Kind.i32 v = refl
counted_write Kind.i64 v = refl
counted_write Kind.f32 v = refl
counted_write Kind.f64 v = refl
counted_write Kind.guid v = refl

pub null-stands : (k : Kind) (s : List ℕ) → Stands (counted_column k) (0 ∷ s) Value.null 1
null-stands k s =
    record {
      read = null-read k s;
      same = null_write k;
      inside = omega arith;
      none = none_out (counted_column k) Value.null refl;
    }

pub counted-stands : (k : Kind) (s : List ℕ) → (k ≡ Kind.bit → ⊥) → Bytes s → width k ≤ length s
    → Stands (counted_column k) (width k ∷ s) (scalar_in k s) (1 + width k)
counted-stands k s n b h =
    let v = scalar_of k (take (width k) s) in
    let o : 1 + width k ≡ suc (width k) = add_comm 1 (width k) ∙ add-one (width k) in
    record {
      read = counted_read_lem k s ∙ ap (λ (r : Read Scalar). further 1 (map_read Value.scalar r)) (scalar_there k s h);
      same = counted_write k v ∙ rw (kind_of_lem k (take (width k) s), o, again k s n b h);
      inside = omega (arith, h);
      none = none_out (counted_column k) (scalar_in k s) refl;
    }

-- ---- what the code answers

module _ (k : K.Kind) where
  pub bare-width : (w : ℕ) (rest : List ℕ) → w ≡ width (kind_told k) → Bytes rest → w ≤ length rest → IsWidth (Some (P.Bare k)) rest (Some w)
  bare-width w rest e b h c said =
      let l : width (kind_told k) ≤ length rest = rw e at h in
      (rw (said.0, e) (bare-stands (kind_told k) rest said.1 b l), (l, said.1.1))

  pub null-width : (rest : List ℕ) → 0 < length rest → get_or rest 0 0 ≡ 0 → IsWidth (Some (P.Counted k)) rest (Some 1)
  null-width [] l e c said = absurd (omega (arith, l))
  null-width (x ∷ rest) l e c said = (rw (said.0, e) (null-stands (kind_told k) rest), (l, λ z. absurd (z e), said.1))

  pub counted-width : (w : ℕ) (rest : List ℕ) → get_or rest 0 0 ≡ w → w ≡ width (kind_told k) → (w ≡ 0 → ⊥) → Bytes rest → w < length rest
      → IsWidth (Some (P.Counted k)) rest (Some (1 + w))
  counted-width w [] f e z b l c said = absurd (omega (arith, l))
  counted-width w (x ∷ rest) f e z b l c said =
      let t : eqb x 0 ≡ false = ne_eqb x 0 (λ q. z (sym f ∙ q)) in (
        rw (said.0, t, f, e) (counted-stands (kind_told k) rest said.1 (bytes_drop 1 (x ∷ rest) b) (omega (arith, l, e))),
        (omega (arith, l), λ _. omega (arith, l, e), said.1),
      )

-- ---- at a place

module _ (c : Column) (s : List ℕ) (at : ℕ) (v : Value) (n : ℕ) (h : at ≤ length s) (w : Stands c (drop at s) v n) where
  pub there_at : read_at (read_value c) s at ≡ took v (at + n)
  there_at = at_took (read_value c) s at v n h w.read

  pub ends-inside : at + n ≤ length s
  ends-inside = omega (arith, w.inside, length-drop at s, h)

  pub length-written : length (encode c v) ≡ n
  length-written = ap (λ (l : List ℕ). length l) w.same ∙ length-take-le n (drop at s) w.inside

  pub written_there : map_read (encode c) (read_value c (drop at s)) ≡ took (take n (drop at s)) n
  written_there = rw (w.read, w.same)
