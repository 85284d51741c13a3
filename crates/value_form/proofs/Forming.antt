-- The normal form of a value that was read, by the bytes that it was read of, family by family.
-- Bytes that stand for a number are the bytes of that number, so a scalar and a length are written as they came; but a bit above 1 is written 1, and PLP
-- content is written in one chunk.
-- Assumes nothing.
use Rattle.std.specs.Prelude.{None, Option, Some}
use mathlib.Core.Path.{◌≡◌, refl, sym, ap, ◌∙◌}
use mathlib.Core.Bool.{Bool, true, false}
use mathlib.Core.List.{List, [], ◌∷◌, ◌++◌}
use Prim.Native.Nat.{ℕ, zero, suc, ◌+◌, ◌^◌, ◌<◌, ◌≤◌}
use native.Mathlib.Nat.{add_comm}
use native.Mathlib.Numerals.{add-one}
use native.Mathlib.Omega.{arith}
use lib.Dec.{ltb, eqb}
use lib.ListN.{length, get_or, take, drop}
use lib.Seq.{take-suc, drop-cons, take-add, length-take-le}
use borrow.Author.Tests.{le-ltb, ltb-false, eq-eqb, ne_eqb, eqb-true}
use Rattle.lists.proofs.Split.{split, clash}
use Rattle.format.specs.Answer.{Read, took, stops, further, then_read, map_read}
use Rattle.format.specs.Number.{low_nat, low_bytes, signed, unsigned, read_byte, read_low, read_bytes}
use Rattle.format.specs.Scalar.{Kind, width, kind_of, scalar_of, scalar_bytes, read_scalar, is_one_of}
use Rattle.format.specs.Plp.{plp_mark, is_odd, read_plp, plp_bytes}
use Rattle.format.specs.Value.{Value, ContentKind, fixed_width, length_byte, content, is_text, content_value, of_width, read_width}
use Rattle.format.specs.Value.{short_null, read_short, encode_family}
use Rattle.format.proofs.Number.{Bytes, low_forth, low-lt, signed_forth}
use Rattle.format.proofs.Answer.{no_truth}
use Rattle.format.proofs.Guid.{guid_back_lem}
use Rattle.format.proofs.Plain.{bytes_take, bytes_drop}
use Rattle.value_kind.specs.declared.kinds.Listed.{Listed}
use Rattle.value_kind.specs.declared.kinds.Listed.TheVariants as L
use Rattle.value_kind.specs.Told.{listed_told}
use Rattle.value_form.specs.Told.{normal_in, IsRead}

-- ---- scalars

low_of : (w : ℕ) (s : List ℕ) → Bytes s → length s ≡ w → low_bytes w (low_nat s) ≡ s
low_of w s b l = rw l at (low_forth s b)

whole_of : (w : ℕ) (s : List ℕ) → 0 < w → Bytes s → length s ≡ w → low_bytes w (unsigned w (signed w (low_nat s))) ≡ s
whole_of w s p b l =
    let h : low_nat s < 256 ^ w = rw l at (low-lt s b) in
    ap (low_bytes w) (signed_forth w (low_nat s) p h) ∙ low_of w s b l

-- but for a bit, the bytes of a value are those that it was read of
pub scalar_forth : (k : Kind) (s : List ℕ) → (k ≡ Kind.bit → ⊥) → Bytes s → length s ≡ width k → scalar_bytes (scalar_of k s) ≡ s
unfolding scalar_of scalar_bytes
scalar_forth Kind.bit s n b l = absurd (n refl)
scalar_forth Kind.u8 s n b l = low_of 1 s b l
scalar_forth Kind.i16 s n b l = whole_of 2 s (omega arith) b l
scalar_forth Kind.i32 s n b l = whole_of 4 s (omega arith) b l
scalar_forth Kind.i64 s n b l = whole_of 8 s (omega arith) b l
scalar_forth Kind.f32 s n b l = low_of 4 s b l
scalar_forth Kind.f64 s n b l = low_of 8 s b l
scalar_forth Kind.guid s n b l = guid_back_lem s

pub kind_of_lem : (k : Kind) (s : List ℕ) → kind_of (scalar_of k s) ≡ k
unfolding scalar_of
kind_of_lem Kind.bit s = refl
kind_of_lem Kind.u8 s = refl
kind_of_lem Kind.i16 s = refl
kind_of_lem Kind.i32 s = refl
kind_of_lem Kind.i64 s = refl
kind_of_lem Kind.f32 s = refl
kind_of_lem Kind.f64 s = refl
kind_of_lem Kind.guid s = refl

-- ---- a bit at a place

module _ (s : List ℕ) (at : ℕ) (h : at < length s) where
  abbrev byte : ℕ
  byte = get_or s at 0

  -- what is written for it
  abbrev pub bit_bytes : List ℕ
  bit_bytes = take at s ++ scalar_bytes (scalar_of Kind.bit (take 1 (drop at s)))

  one_byte : take 1 (drop at s) ≡ byte ∷ []
  one_byte = ap (take 1) (drop-cons s at 0 h)

  bit_small : (x : ℕ) → x ≤ 1 → scalar_bytes (scalar_of Kind.bit (x ∷ [])) ≡ x ∷ []
  unfolding scalar_of scalar_bytes
  bit_small zero l = refl
  bit_small (suc zero) l = refl
  bit_small (suc (suc x)) l = absurd (omega arith)

  bit_large : (x : ℕ) → 1 < x → scalar_bytes (scalar_of Kind.bit (x ∷ [])) ≡ 1 ∷ []
  unfolding scalar_of scalar_bytes
  bit_large x l = rw (ne_eqb (x + 0) 0 (λ e. omega (arith, e)))

  pub bit_kept : byte ≤ 1 → took (take (at + 1) s) (at + 1) ≡ took bit_bytes (at + 1)
  bit_kept l = rw (one_byte, bit_small byte l, add-one, take-suc s at 0 h)

  pub bit_one : 1 < byte → took (take at s ++ (1 ∷ [])) (at + 1) ≡ took bit_bytes (at + 1)
  bit_one l = rw (one_byte, bit_large byte l)

-- ---- the bytes alone

module _ (k : Kind) (s : List ℕ) (d : ℕ) where
  abbrev fixed_read : Read (List ℕ)
  fixed_read = normal_in d (Some (fixed_width k)) s

  pub fixed-inside : IsRead fixed_read → width k ≤ length s
  unfolding read_scalar read_bytes
  fixed-inside i = go (ltb (length s) (width k)) refl
    where
      go : (b : Bool) → ltb (length s) (width k) ≡ b → width k ≤ length s
      go true e = absurd (rw e at i)
      go false e = ltb-false (length s) (width k) e

  module _ (h : width k ≤ length s) where
    fixed-bytes : took (scalar_bytes (scalar_of k (take (width k) s))) (width k) ≡ fixed_read
    unfolding read_scalar read_bytes
    fixed-bytes = rw (le-ltb (length s) (width k) h)

    pub fixed_same : (k ≡ Kind.bit → ⊥) → Bytes s → took (take (width k) s) (width k) ≡ fixed_read
    fixed_same n b =
        let f = scalar_forth k (take (width k) s) n (bytes_take (width k) s b) (length-take-le (width k) s h) in
        ap (λ (l : List ℕ). took l (width k)) (sym f) ∙ fixed-bytes

pub fixed-bit : (k : Kind) (s : List ℕ) (d : ℕ) → k ≡ Kind.bit → 0 < length s
    → took (scalar_bytes (scalar_of Kind.bit (take 1 s))) 1 ≡ normal_in d (Some (fixed_width k)) s
fixed-bit k s d e h = rw e (fixed-bytes Kind.bit s d h)

-- ---- behind a length byte

of_width_lem : (ks : List Kind) (n : ℕ) (k : Kind) → of_width ks n ≡ Some k → n ≡ width k
of_width_lem [] n k h = clash cc
of_width_lem (a ∷ ks) n k h =
    split (eqb n (width a))
    (λ e q.
    let p : a ≡ k = cc in
    eqb-true n (width a) e ∙ ap width p)
    (λ _ q. of_width_lem ks n k q)
    h

module _ (ks : List Kind) (d x : ℕ) (s : List ℕ) where
  abbrev behind_byte : Read Value → Read (List ℕ)
  behind_byte r = map_read (encode_family d (Some (length_byte ks))) (further 1 r)

  -- a kind of that width
  record Wide (r : Read Value) : Type 0 where
    pub kind : Kind
    pub listed : of_width ks x ≡ Some kind
    pub wide : x ≡ width kind
    pub inside : x ≤ length s
    pub is : took (x ∷ scalar_bytes (scalar_of kind (take x s))) (1 + x) ≡ behind_byte r

  wide-scalar : (k : Kind) → of_width ks x ≡ Some k → (b : Bool) → ltb d x ≡ b → (a : Bool) → ltb (length s) (width k) ≡ a
      → IsRead (behind_byte (read_width d x (Some k) s)) → Wide (read_width d x (Some k) s)
  unfolding read_scalar read_bytes
  wide-scalar k e true t a u i = absurd (rw t at i)
  wide-scalar k e false t true u i = absurd (rw (t, u) at i)
  wide-scalar k e false t false u i =
      let w = of_width_lem ks x k e in
      let h = ltb-false (length s) (width k) u in
      record { kind = k; listed = e; wide = w; inside = omega arith; is = rw (t, u, w, kind_of_lem k (take (width k) s)) }

  wide_read : (o : Option Kind) → of_width ks x ≡ o → IsRead (behind_byte (read_width d x o s)) → Wide (read_width d x o s)
  wide_read None e i = absurd i
  wide_read (Some k) e i = wide-scalar k e (ltb d x) refl (ltb (length s) (width k)) refl i

-- where a type lists a kind of width 1, is it the bit?
lists_bit : (l : Listed) → of_width (listed_told l) 1 ≡ Some Kind.bit → is_one_of (listed_told l) Kind.bit ≡ true
lists_bit L.Integers h = clash cc
lists_bit L.Bits h = refl
lists_bit L.Floats h = clash cc
lists_bit L.Guids h = clash cc

bit-listed : (l : Listed) → is_one_of (listed_told l) Kind.bit ≡ true → of_width (listed_told l) 1 ≡ Some Kind.bit
bit-listed L.Integers h = clash cc
bit-listed L.Bits h = refl
bit-listed L.Floats h = clash cc
bit-listed L.Guids h = clash cc

module _ (l : Listed) (d : ℕ) where
  abbrev listed_read : List ℕ → Read (List ℕ)
  listed_read s = normal_in d (Some (length_byte (listed_told l))) s

  pub listed_there : (s : List ℕ) → IsRead (listed_read s) → 0 < length s
  unfolding then_read read_byte
  listed_there [] i = absurd i
  listed_there (x ∷ s) i = omega arith

  no_bit : (x : ℕ) (k : Kind) → (x ≡ 1 → is_one_of (listed_told l) Kind.bit ≡ false) → of_width (listed_told l) x ≡ Some k → x ≡ width k → k ≡ Kind.bit → ⊥
  no_bit x k z e w q =
      let o : x ≡ 1 = w ∙ ap width q in
      let f : of_width (listed_told l) 1 ≡ Some Kind.bit = rw (o, q) at e in
      no_truth (sym (z o) ∙ lists_bit l f)

  pub listed_same : (s : List ℕ) → Bytes s → IsRead (listed_read s) → (get_or s 0 0 ≡ 1 → is_one_of (listed_told l) Kind.bit ≡ false)
      → took (take (1 + get_or s 0 0) s) (1 + get_or s 0 0) ≡ listed_read s
  unfolding then_read read_byte
  listed_same [] b i z = absurd i
  listed_same (x ∷ s) b i z = go (eqb x 0) refl
    where
      go : (t : Bool) → eqb x 0 ≡ t → took (take (1 + x) (x ∷ s)) (1 + x) ≡ listed_read (x ∷ s)
      go true e = rw (e, eqb-true x 0 e)
      go false e =
          let w = wide_read (listed_told l) d x s (of_width (listed_told l) x) refl (rw e at i) in
          let c = bytes_take x s (bytes_drop 1 (x ∷ s) b) in
          let f = scalar_forth w.kind (take x s) (no_bit x w.kind z w.listed w.wide) c (length-take-le x s w.inside ∙ w.wide) in
          let o : 1 + x ≡ suc x = add_comm 1 x ∙ add-one x in
          rw (e, ← w.is, f, o)

  -- a bit behind its length byte
  pub record ListedBit (s : List ℕ) : Type 0 where
    pub inside : 1 < length s
    pub is : took (take 1 s ++ scalar_bytes (scalar_of Kind.bit (take 1 (drop 1 s)))) 2 ≡ listed_read s

  pub listed-bit : (s : List ℕ) → IsRead (listed_read s) → get_or s 0 0 ≡ 1 → is_one_of (listed_told l) Kind.bit ≡ true → ListedBit s
  unfolding then_read read_byte
  listed-bit [] i o t = absurd i
  listed-bit (x ∷ s) i o t = rw o (go (rw o at i))
    where
      go : IsRead (listed_read (1 ∷ s)) → ListedBit (1 ∷ s)
      go j =
          let w = wide_read (listed_told l) d 1 s (of_width (listed_told l) 1) refl j in
          let q : Some w.kind ≡ Some Kind.bit = sym w.listed ∙ bit-listed l t in
          let k : w.kind ≡ Kind.bit = cc in
          let n = w.inside in
          record { inside = omega arith; is = rw k at w.is }

-- ---- content

module _ (k : ContentKind) (d : ℕ) (s : List ℕ) where
  abbrev content_read : Read (List ℕ)
  content_read = normal_in d (Some (content k)) s

  -- PLP
  plp_form : eqb d plp_mark ≡ true → (o : Option (List ℕ)) → encode_family d (Some (content k)) (content_value k o) ≡ plp_bytes o
  plp_form e None = rw e
  plp_form e (Some c) = go k
    where
      go : (j : ContentKind) → encode_family d (Some (content k)) (content_value j (Some c)) ≡ plp_bytes (Some c)
      go ContentKind.binary = rw e
      go ContentKind.string = rw e

  pub plp_normal : eqb d plp_mark ≡ true → map_read plp_bytes (read_plp (is_text k) s) ≡ content_read
  plp_normal e = rw e (go (read_plp (is_text k) s))
    where
      go : (r : Read (Option (List ℕ))) → map_read plp_bytes r ≡ map_read (encode_family d (Some (content k))) (map_read (content_value k) r)
      go (took o n) = ap (λ (l : List ℕ). took l n) (sym (plp_form e o))
      go (stops x) = refl

  -- behind two length bytes
  module _ (e : eqb d plp_mark ≡ false) where
    pub short_there : IsRead content_read → 2 ≤ length s
    unfolding then_read read_low
    short_there i = go (ltb (length s) 2) refl
      where
        go : (b : Bool) → ltb (length s) 2 ≡ b → 2 ≤ length s
        go true t = absurd (rw (e, t) at i)
        go false t = ltb-false (length s) 2 t

    module _ (h : 2 ≤ length s) (bytes : Bytes s) (n : ℕ) (is : n ≡ low_nat (take 2 s)) where
      two_bytes : low_bytes 2 n ≡ take 2 s
      two_bytes = ap (low_bytes 2) is ∙ low_of 2 (take 2 s) (bytes_take 2 s bytes) (length-take-le 2 s h)

      behind_two : content_read ≡ map_read (encode_family d (Some (content k))) (further 2 (read_short k d n (drop 2 s)))
      unfolding then_read read_low
      behind_two = rw (e, le-ltb (length s) 2 h, is)

      pub short_null_lem : n ≡ short_null → took (take 2 s) 2 ≡ content_read
      short_null_lem z =
          let f : low_bytes 2 short_null ≡ take 2 s = ap (low_bytes 2) (sym z) ∙ two_bytes in
          sym (behind_two ∙ rw (eq-eqb n short_null z, e, f))

      short-form : (c : List ℕ) → encode_family d (Some (content k)) (content_value k (Some c)) ≡ low_bytes 2 (length c) ++ c
      short-form c = go k
        where
          go : (j : ContentKind) → encode_family d (Some (content k)) (content_value j (Some c)) ≡ low_bytes 2 (length c) ++ c
          go ContentKind.binary = rw e
          go ContentKind.string = rw e

      pub short_same : (n ≡ short_null → ⊥) → IsRead content_read → took (take (2 + n) s) (2 + n) ≡ content_read
      unfolding read_bytes
      short_same z i = go (ltb d n) refl (is_odd (is_text k) n) refl (ltb (length (drop 2 s)) n) refl
        where
          j : IsRead (map_read (encode_family d (Some (content k))) (further 2 (read_short k d n (drop 2 s))))
          j = rw behind_two at i

          go : (b : Bool) → ltb d n ≡ b → (o : Bool) → is_odd (is_text k) n ≡ o → (m : Bool) → ltb (length (drop 2 s)) n ≡ m
              → took (take (2 + n) s) (2 + n) ≡ content_read
          go true p o q m r = absurd (rw (ne_eqb n short_null z, p) at j)
          go false p true q m r = absurd (rw (ne_eqb n short_null z, p, q) at j)
          go false p false q true r = absurd (rw (ne_eqb n short_null z, p, q, r) at j)
          go false p false q false r =
              let c = take n (drop 2 s) in
              let l : length c ≡ n = length-take-le n (drop 2 s) (ltb-false (length (drop 2 s)) n r) in
              let f : encode_family d (Some (content k)) (content_value k (Some c)) ≡ take (2 + n) s =
              short-form c
              ∙ (ap (λ (m : ℕ). low_bytes 2 m ++ c) l ∙ (ap (λ (x : List ℕ). x ++ c) two_bytes ∙ sym (take-add 2 n s))) in
              sym (behind_two ∙ rw (ne_eqb n short_null z, p, q, r, f))
