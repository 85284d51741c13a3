-- What follows the type byte, as the code reads it, is what the definition reads: a byte is a number of one byte, and one reader serves every type with a
-- length.
-- Assumes nothing.
use mathlib.Core.Path.{◌≡◌, refl, ap, ◌∙◌}
use mathlib.Core.List.{List, [], ◌∷◌}
use mathlib.Core.Bool.{false}
use Prim.Native.Nat.{ℕ, ◌≤◌}
use native.Mathlib.Nat.{add-zero}
use native.Mathlib.Omega.{arith}
use lib.ListN.{length, drop}
use borrow.Author.Tests.{le-ltb}
use Rattle.format.specs.Answer.{Read, took, stops, further, follow, then_read, read_at}
use Rattle.format.specs.Number.{read_byte, read_low}
use Rattle.format.specs.Descriptor.{TypeId, ByteLen, UShortLen, LongLen, byte_len, u_short_len, long_len, Column, plain, has_digits, has_collation}
use Rattle.format.specs.Descriptor.{read_digits, read_fields}
use Rattle.format.proofs.Place.{at_left}
use Rattle.column_read.specs.Told.{read_behind}

-- a byte is a number of one byte
byte_low : (s : List ℕ) → read_byte s ≡ read_low 1 s
unfolding read_byte read_low
byte_low [] = refl
byte_low (b ∷ s) =
    let t = le-ltb (length (b ∷ s)) 1 (omega arith) in
    rw (t, add-zero b)

module _ {A B : Type 0} where
  -- readers that say the same of every input say the same one behind another
  then_same : (reader : List ℕ → Read A) (first second : A → List ℕ → Read B) → ((a : A) (l : List ℕ) → first a l ≡ second a l) → (s : List ℕ) →
      then_read reader first s ≡ then_read reader second s
  unfolding then_read
  then_same reader first second h s = go (reader s)
    where
      go : (r : Read A) → follow r first s ≡ follow r second s
      go (took a n) = ap (further n) (h a (drop n s))
      go (stops e) = refl

-- and at a place
at_same : {A : Type 0} (first second : List ℕ → Read A) (s : List ℕ) (at : ℕ) → ((l : List ℕ) → first l ≡ second l) → read_at first s at ≡ read_at second s at
unfolding read_at
at_same first second s at h = rw (h (drop at s))

-- a length of one byte, and precision and scale behind it
digits_behind : (f : ByteLen) (n : ℕ) (l : List ℕ) → read_digits (byte_len f) n l ≡ read_behind (byte_len f) n l
unfolding then_read
digits_behind f n l = rw (byte_low l)

byte-sized : (f : ByteLen) (l : List ℕ) → read_fields (byte_len f) l ≡ then_read (read_low 1) (read_behind (byte_len f)) l
unfolding then_read
byte-sized f l = rw (← byte_low l) (then_same read_byte (read_digits (byte_len f)) (read_behind (byte_len f)) (digits_behind f) l)

-- The types with a length, and how many bytes it takes.
pub data Sized : TypeId → ℕ → Type 0 where
  one : (f : ByteLen) → Sized (byte_len f) 1
  two : (f : UShortLen) → Sized (u_short_len f) 2
  four : (f : LongLen) → Sized (long_len f) 4

-- one reader for each of them
pub sized_fields : (t : TypeId) (w : ℕ) (s : List ℕ) (at : ℕ) → Sized t w → read_at (read_fields t) s at ≡ read_at (then_read (read_low w) (read_behind t)) s at
sized_fields t w s at (one f) = at_same (read_fields (byte_len f)) (then_read (read_low 1) (read_behind (byte_len f))) s at (byte-sized f)
sized_fields t w s at (two f) = refl
sized_fields t w s at (four f) = refl

-- ---- what follows the length, by what the type has

module _ (t : TypeId) (n : ℕ) (s : List ℕ) (at : ℕ) where
  pub behind : (reader : List ℕ → Read Column) → ((l : List ℕ) → read_behind t n l ≡ reader l) → read_at (read_behind t n) s at ≡ read_at reader s at
  behind reader h = at_same (read_behind t n) reader s at h

  pub nothing_behind : has_digits t ≡ false → has_collation t ≡ false → at ≤ length s → read_at (read_behind t n) s at ≡ took (plain t n) at
  nothing_behind h k i =
      at_same (read_behind t n) (λ (l : List ℕ). took (plain t n) 0) s at (λ l. rw (h, k))
      ∙ at_left false (λ (l : List ℕ). took (plain t n) 0) (plain t n) s at refl i
