-- "A length byte, 0 for null, else one of" the widths of the listed kinds: `listed n ks` for every list ks whose kinds have a width each of their own.
-- A value fits where it is null, or a scalar of a listed kind in its range, its width within the declared length n. The length byte tells the kind back,
-- since no
-- two listed kinds have the same width; behind it the scalars' codec reads.
-- Assumes nothing.
use Rattle.std.specs.Prelude.{None, Option, Some}
use mathlib.Core.Path.{◌≡◌, refl, ap, sym, ◌∙◌}
use mathlib.Core.List.{List, [], ◌∷◌, ◌++◌}
use mathlib.Core.Bool.{Bool, true, false}
use Prim.Native.Nat.{ℕ, ◌+◌, ◌-◌, ◌≤◌}
use native.Mathlib.Omega.{arith}
use lib.ListN.{length, get_or, drop}
use lib.Dec.{ltb, eqb}
use borrow.Author.Tests.{le-ltb, ltb-false, eqb-true, eq-eqb}
use Rattle.lists.specs.Pick.{pick}
use Rattle.lists.proofs.Split.{split, clash}
use Rattle.format.specs.Answer.{took, map_read, long, sequence}
use Rattle.format.specs.Number.{read_byte}
use Rattle.format.specs.Scalar.{Kind, Scalar, width, kind_of, scalar_bytes, read_scalar, place, same_kind, is_one_of}
use Rattle.format.specs.Value.{Value, length_byte, of_width, read_width, read_length_byte, read_family, encode_in}
use Rattle.format.proofs.Number.{Bytes}
use Rattle.format.proofs.Place.{past, no_took, map-took, then_took}
use Rattle.format.proofs.Plain.{bytes_drop, byte-took}
use Rattle.format.proofs.Codec.{Codec, then_again}
use Rattle.format.proofs.Scalar as Scalars

pub data Listed (ks : List Kind) (declared : ℕ) : Value → Type 0 where
  null : Listed ks declared Value.null
  scalar : (x : Scalar) → is_one_of ks (kind_of x) ≡ true → width (kind_of x) ≤ declared → Scalars.InRange x → Listed ks declared (Value.scalar x)

-- the place of a kind tells the kind
abbrev kind_at : ℕ → Kind
kind_at n = get_or (Kind.bit ∷ Kind.u8 ∷ Kind.i16 ∷ Kind.i32 ∷ Kind.i64 ∷ Kind.f32 ∷ Kind.f64 ∷ Kind.guid ∷ []) (n - 1) Kind.bit

at_place : (k : Kind) → kind_at (place k) ≡ k
at_place Kind.bit = refl
at_place Kind.u8 = refl
at_place Kind.i16 = refl
at_place Kind.i32 = refl
at_place Kind.i64 = refl
at_place Kind.f32 = refl
at_place Kind.f64 = refl
at_place Kind.guid = refl

pub same_kind_lem : (a b : Kind) → same_kind a b ≡ true → a ≡ b
same_kind_lem a b h = sym (at_place a) ∙ (ap kind_at (eqb-true (place a) (place b) h) ∙ at_place b)

-- each of the kinds is the listed kind of its width
abbrev pub Told : List Kind → List Kind → Type 0
Told ks [] = Unit {0}
Told ks (k ∷ more) = (of_width ks (width k) ≡ Some k) × Told ks more

told : (ks more : List Kind) (k : Kind) → Told ks more → is_one_of more k ≡ true → of_width ks (width k) ≡ Some k
told ks [] k t h = clash cc
told ks (a ∷ more) k t h =
    split (same_kind k a) (λ e _. rw (same_kind_lem k a e) t.0) (λ _ e. told ks more k t.1 e) h

either_true : (b : Bool) → pick b true true ≡ true
either_true true = refl
either_true false = refl

same_place : (a b : Kind) → a ≡ b → same_kind b a ≡ true
same_place a b e = eq-eqb (place b) (place a) (ap place (sym e))

-- the listed kind of a width has this width, and is listed
of_width_lem : (ks : List Kind) (n : ℕ) (k : Kind) → of_width ks n ≡ Some k → (n ≡ width k) × (is_one_of ks k ≡ true)
of_width_lem [] n k h = clash cc
of_width_lem (a ∷ ks) n k h =
    split (eqb n (width a))
    (λ e q.
    let p : a ≡ k = cc in
    (eqb-true n (width a) e ∙ ap width p, rw (same_place a k p)))
    (λ _ q. let p = of_width_lem ks n k q in (p.0, rw p.1 (either_true (same_kind k a))))
    h

-- no value of a width takes no byte
some-width : (k : Kind) → eqb (width k) 0 ≡ false
some-width Kind.bit = refl
some-width Kind.u8 = refl
some-width Kind.i16 = refl
some-width Kind.i32 = refl
some-width Kind.i64 = refl
some-width Kind.f32 = refl
some-width Kind.f64 = refl
some-width Kind.guid = refl

module _ (n : ℕ) (ks : List Kind) (t : Told ks ks) where
  -- the width tells the kind back, and behind it the scalar reads
  width_read : (x : Scalar) (rest : List ℕ) → is_one_of ks (kind_of x) ≡ true → width (kind_of x) ≤ n → Scalars.InRange x →
      read_length_byte ks n (width (kind_of x)) (scalar_bytes x ++ rest) ≡ took (Value.scalar x) (length (scalar_bytes x))
  width_read x rest i l r =
      let k = kind_of x in
      let a : eqb (width k) 0 ≡ false = some-width k in
      let b : of_width ks (width k) ≡ Some k = told ks ks k t i in
      let c : ltb n (width k) ≡ false = le-ltb n (width k) l in
      rw (a, b, c, (Scalars.codec k).again x rest (refl, r))

  listed_again : (v : Value) (rest : List ℕ) → Listed ks n v →
      read_family n (Some (length_byte ks)) (encode_in n (length_byte ks) v ++ rest) ≡ took v (length (encode_in n (length_byte ks) v))
  unfolding read_byte
  listed_again v rest null = then_again read_byte (read_length_byte ks n) (0 ∷ []) [] rest 0 Value.null (λ more. refl) refl
  listed_again v rest (scalar x i l r) =
      then_again read_byte (read_length_byte ks n) (width (kind_of x) ∷ []) (scalar_bytes x) rest (width (kind_of x)) (Value.scalar x) (λ more. refl)
      (width_read x rest i l r)

  -- what was read fits, and takes no more bytes again
  abbrev ListedTook : Value → ℕ → Type 0
  ListedTook v m = Listed ks n v × (length (encode_in n (length_byte ks) v) ≤ 1 + m)

  null-took : (v : Value) (m : ℕ) → took Value.null 0 ≡ took v m → ListedTook v m
  null-took v m h =
      let p : Value.null ≡ v = cc in
      rw (← p) (null, omega arith)

  width-took : (w : ℕ) (o : Option Kind) (s : List ℕ) (v : Value) (m : ℕ) → Bytes s → of_width ks w ≡ o → read_width n w o s ≡ took v m → ListedTook v m
  width-took w None s v m b e h = no_took sequence v m h
  width-took w (Some k) s v m b e h =
      let p = past (ltb n w) long (map_read Value.scalar (read_scalar k s)) v m h in
      let q = map-took Value.scalar (read_scalar k s) v m p.1 in
      let x = q.0 in
      let f = (Scalars.codec k).fits s x m b q.1 in
      let l = (Scalars.codec k).short s x m b q.1 in
      let o = of_width_lem ks w k e in
      let i : width (kind_of x) ≤ n = omega (arith, ltb-false n w p.0, o.0, ap width f.0) in
      rw (← q.2) (scalar x (rw f.0 o.1) i f.1, omega arith)

  listed-took : (s : List ℕ) (v : Value) (m : ℕ) → Bytes s → read_family n (Some (length_byte ks)) s ≡ took v m →
      Listed ks n v × (length (encode_in n (length_byte ks) v) ≤ m + 0)
  listed-took s v m b h =
      let p = then_took read_byte (read_length_byte ks n) s v m h in
      let w = p.0 in
      let r = drop p.1 s in
      let q : ListedTook v p.2 =
      split (eqb w 0) (λ _ e. null-took v p.2 e) (λ _ e. width-took w (of_width ks w) r v p.2 (bytes_drop p.1 s b) refl e) p.4 in
      let u = byte-took s w p.1 p.3 in
      let g = q.1 in
      let e = p.5 in
      (q.0, omega arith)

  pub listed : Codec (read_family n (Some (length_byte ks))) (encode_in n (length_byte ks)) (Listed ks n) 0
  listed = record { again = listed_again; fits = λ s v m b h. (listed-took s v m b h).0; short = λ s v m b h. (listed-took s v m b h).1 }
