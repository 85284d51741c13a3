-- What the rest of a row begins with, by places and counts: each check of the definition on plain numbers, in document 01's order.
-- Behind a length byte or two length bytes the definition is given the bytes that they left; a place in those is one or two further in the whole rest.
-- Assumes nothing.
use Rattle.std.specs.Prelude.{None, Some}
use mathlib.Core.Path.{◌≡◌, refl, sym, ap, ◌∙◌}
use mathlib.Core.Bool.{true, false}
use mathlib.Core.List.{List, [], ◌∷◌}
use Prim.Native.Nat.{ℕ, ◌+◌, ◌<◌, ◌≤◌}
use native.Mathlib.Nat.{zero-add}
use native.Mathlib.Omega.{arith}
use lib.Dec.{ltb}
use lib.ListN.{length, get_or, take, drop, length-drop}
use borrow.Author.Tests.{lt-ltb, le-ltb, eq-eqb, ne_eqb}
use Rattle.format.specs.Answer.{Read, took, stops, further, then_read, map_read, missing, long, sequence}
use Rattle.format.specs.Number.{read_byte, read_low, read_bytes, low_nat}
use Rattle.format.specs.Scalar.{Kind, width, scalar_of, read_scalar}
use Rattle.format.specs.Plp.{is_odd}
use Rattle.value_kind.proofs.ScalarLaws.{width_some}
use Rattle.format.specs.Value.{Value, ContentKind, is_text, content_value, of_width, read_length_byte, short_null, read_short}

pub further_none : {A : Type 0} (r : Read A) → further 0 r ≡ r
further_none (took v n) = ap (took v) (zero-add n)
further_none (stops e) = refl

-- ---- a value of a kind from a place on

module _ (k : Kind) (s : List ℕ) (at : ℕ) where
  pub scalar_there : at + width k ≤ length s →
      took (Value.scalar (scalar_of k (take (width k) (drop at s)))) (at + width k) ≡ further at (map_read Value.scalar (read_scalar k (drop at s)))
  unfolding read_scalar read_bytes
  scalar_there h =
      let l = length-drop at s in
      let t : ltb (length (drop at s)) (width k) ≡ false = le-ltb (length (drop at s)) (width k) (omega arith) in
      rw t

  pub scalar-missing : length s < at + width k → stops missing ≡ further at (map_read Value.scalar (read_scalar k (drop at s)))
  unfolding read_scalar read_bytes
  scalar-missing h =
      let l = length-drop at s in
      let w = width_some k in
      let t : ltb (length (drop at s)) (width k) ≡ true = lt-ltb (length (drop at s)) (width k) (omega arith) in
      rw t

-- ---- behind a length byte

pub no_byte : {B : Type 0} (next : ℕ → List ℕ → Read B) (s : List ℕ) → length s ≡ 0 → stops missing ≡ then_read read_byte next s
unfolding then_read read_byte
no_byte next [] h = refl
no_byte next (b ∷ s) h = absurd (omega arith)

behind-byte : {B : Type 0} (next : ℕ → List ℕ → Read B) (s : List ℕ) → 0 < length s → then_read read_byte next s ≡ further 1 (next (get_or s 0 0) (drop 1 s))
unfolding then_read read_byte
behind-byte next [] h = absurd (omega arith)
behind-byte next (b ∷ s) h = refl

module _ (ks : List Kind) (declared : ℕ) (s : List ℕ) (h : 0 < length s) where
  abbrev n : ℕ
  n = get_or s 0 0

  front : then_read read_byte (read_length_byte ks declared) s ≡ further 1 (read_length_byte ks declared n (drop 1 s))
  front = behind-byte (read_length_byte ks declared) s h

  pub byte-null : n ≡ 0 → took Value.null 1 ≡ then_read read_byte (read_length_byte ks declared) s
  byte-null z = sym (front ∙ rw (eq-eqb n 0 z))

  module _ (z : n ≡ 0 → ⊥) where
    pub byte_unlisted : None ≡ of_width ks n → stops sequence ≡ then_read read_byte (read_length_byte ks declared) s
    byte_unlisted e = sym (front ∙ rw (ne_eqb n 0 z, ← e))

    pub byte-long : (k : Kind) → Some k ≡ of_width ks n → declared < n → stops long ≡ then_read read_byte (read_length_byte ks declared) s
    byte-long k e l = sym (front ∙ rw (ne_eqb n 0 z, ← e, lt-ltb declared n l))

    pub byte_scalar : (k : Kind) → Some k ≡ of_width ks n → n ≤ declared →
        further 1 (map_read Value.scalar (read_scalar k (drop 1 s))) ≡ then_read read_byte (read_length_byte ks declared) s
    byte_scalar k e l = sym (front ∙ rw (ne_eqb n 0 z, ← e, le-ltb declared n l))

-- ---- behind two length bytes

pub no_length : {B : Type 0} (next : ℕ → List ℕ → Read B) (s : List ℕ) → length s < 2 → stops missing ≡ then_read (read_low 2) next s
unfolding then_read read_low
no_length next s h = rw (lt-ltb (length s) 2 h)

module _ (k : ContentKind) (declared : ℕ) (s : List ℕ) (n : ℕ) (is : n ≡ low_nat (take 2 s)) (two : 2 ≤ length s) where
  abbrev shortly : Read Value
  shortly = then_read (read_low 2) (read_short k declared) s

  behind-length : shortly ≡ further 2 (read_short k declared n (drop 2 s))
  unfolding then_read read_low
  behind-length = rw (le-ltb (length s) 2 two, is)

  pub short_null_lem : n ≡ short_null → took Value.null 2 ≡ shortly
  short_null_lem z = sym (behind-length ∙ rw (eq-eqb n short_null z))

  module _ (z : n ≡ short_null → ⊥) where
    pub short-long : declared < n → stops long ≡ shortly
    short-long l = sym (behind-length ∙ rw (ne_eqb n short_null z, lt-ltb declared n l))

    module _ (l : n ≤ declared) where
      pub short-odd : is_odd (is_text k) n ≡ true → stops sequence ≡ shortly
      short-odd o = sym (behind-length ∙ rw (ne_eqb n short_null z, le-ltb declared n l, o))

      pub short-missing : is_odd (is_text k) n ≡ false → length s < 2 + n → stops missing ≡ shortly
      unfolding read_bytes
      short-missing o m =
          let d = length-drop 2 s in
          let t : ltb (length (drop 2 s)) n ≡ true = lt-ltb (length (drop 2 s)) n (omega arith) in
          sym (behind-length ∙ rw (ne_eqb n short_null z, le-ltb declared n l, o, t))

      pub short_there : is_odd (is_text k) n ≡ false → 2 + n ≤ length s → took (content_value k (Some (take n (drop 2 s)))) (2 + n) ≡ shortly
      unfolding read_bytes
      short_there o m =
          let d = length-drop 2 s in
          let t : ltb (length (drop 2 s)) n ≡ false = le-ltb (length (drop 2 s)) n (omega arith) in
          sym (behind-length ∙ rw (ne_eqb n short_null z, le-ltb declared n l, o, t))
