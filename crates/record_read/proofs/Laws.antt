-- The column that bytes of a common form begin with, and its record.
-- Assumes nothing.
use Rattle.std.specs.Prelude.{Some}
use mathlib.Core.Path.{◌≡◌, refl}
use mathlib.Core.Bool.{true, false}
use mathlib.Core.List.{List, [], ◌∷◌}
use Prim.Native.Nat.{ℕ, ◌≤◌}
use native.Mathlib.Omega.{arith}
use lib.ListN.{length, get_or, take, drop}
use borrow.Author.Tests.{le-ltb}
use Rattle.format.specs.Answer.{gives, took, then_read}
use Rattle.format.specs.Number.{low_nat, read_byte, read_low}
use Rattle.format.specs.Descriptor.{FixedLen, ByteLen, UShortLen, fixed_len, byte_len, u_short_len, type_of, has_digits, has_collation}
use Rattle.format.specs.Descriptor.{plain, with_scale, with_sort, read_column}
use Rattle.format.proofs.DescriptorForm.{type_byte_lem}
use Rattle.packed.specs.Packed.{record_of}
use Rattle.record_read.specs.Told.{bare, with_digits, with_text, record_made, IsRead}

-- ---- what is read

alone_read : (t : FixedLen) (s : List ℕ) → 1 ≤ length s → type_of (get_or s 0 0) ≡ gives (fixed_len t) → read_column s ≡ took (plain (fixed_len t) 0) 1
unfolding read_column then_read read_byte
alone_read t [] l e = absurd (omega (arith, l))
alone_read t (x ∷ s) l e = rw e

byte-read : (t : ByteLen) (s : List ℕ) → 2 ≤ length s → type_of (get_or s 0 0) ≡ gives (byte_len t) → has_digits (byte_len t) ≡ false →
    read_column s ≡ took (plain (byte_len t) (get_or s 1 0)) 2
unfolding read_column then_read read_byte
byte-read t [] l e d = absurd (omega (arith, l))
byte-read t (x ∷ []) l e d = absurd (omega (arith, l))
byte-read t (x ∷ y ∷ s) l e d = rw (e, d)

digits_read : (t : ByteLen) (s : List ℕ) → 4 ≤ length s → type_of (get_or s 0 0) ≡ gives (byte_len t) → has_digits (byte_len t) ≡ true →
    read_column s ≡ took (with_scale (byte_len t) (get_or s 1 0) (get_or s 2 0) (get_or s 3 0)) 4
unfolding read_column then_read read_byte
digits_read t [] l e d = absurd (omega (arith, l))
digits_read t (x ∷ []) l e d = absurd (omega (arith, l))
digits_read t (x ∷ y ∷ []) l e d = absurd (omega (arith, l))
digits_read t (x ∷ y ∷ z ∷ []) l e d = absurd (omega (arith, l))
digits_read t (x ∷ y ∷ z ∷ v ∷ s) l e d = rw (e, d)

short-read : (t : UShortLen) (s : List ℕ) → 3 ≤ length s → type_of (get_or s 0 0) ≡ gives (u_short_len t) → has_collation (u_short_len t) ≡ false →
    read_column s ≡ took (plain (u_short_len t) (low_nat (take 2 (drop 1 s)))) 3
unfolding read_column then_read read_byte read_low
short-read t [] l e d = absurd (omega (arith, l))
short-read t (x ∷ s) l e d = rw (e, le-ltb (length s) 2 (omega (arith, l)), d)

text-read : (t : UShortLen) (s : List ℕ) → 8 ≤ length s → type_of (get_or s 0 0) ≡ gives (u_short_len t) → has_collation (u_short_len t) ≡ true →
    read_column s ≡ took (with_sort (u_short_len t) (low_nat (take 2 (drop 1 s))) (low_nat (take 4 (drop 3 s))) (get_or s 7 0)) 8
unfolding read_column then_read read_byte read_low
text-read t (x ∷ a ∷ b ∷ c ∷ d ∷ e ∷ f ∷ g ∷ s) l h k =
    rw (h, le-ltb (length (a ∷ b ∷ c ∷ d ∷ e ∷ f ∷ g ∷ s)) 2 (omega (arith, l)), k, le-ltb (length (c ∷ d ∷ e ∷ f ∷ g ∷ s)) 4 (omega (arith, l)))
text-read t (x ∷ a ∷ b ∷ c ∷ d ∷ e ∷ f ∷ []) l h k = absurd (omega (arith, l))
text-read t (x ∷ a ∷ b ∷ c ∷ d ∷ e ∷ []) l h k = absurd (omega (arith, l))
text-read t (x ∷ a ∷ b ∷ c ∷ d ∷ []) l h k = absurd (omega (arith, l))
text-read t (x ∷ a ∷ b ∷ c ∷ []) l h k = absurd (omega (arith, l))
text-read t (x ∷ a ∷ b ∷ []) l h k = absurd (omega (arith, l))
text-read t (x ∷ a ∷ []) l h k = absurd (omega (arith, l))
text-read t (x ∷ []) l h k = absurd (omega (arith, l))
text-read t [] l h k = absurd (omega (arith, l))

-- ---- its fields

module _ (s : List ℕ) where
  pub alone_is : (t : FixedLen) → 1 ≤ length s → type_of (get_or s 0 0) ≡ gives (fixed_len t) → IsRead s (Some (bare 1 (get_or s 0 0) 0))
  unfolding record_made record_of
  alone_is t l e = (l, plain (fixed_len t) 0, alone_read t s l e, refl, λ index. rw (type_byte_lem (get_or s 0 0) (fixed_len t) e))

  pub byte_is : (t : ByteLen) → 2 ≤ length s → type_of (get_or s 0 0) ≡ gives (byte_len t) → has_digits (byte_len t) ≡ false →
      IsRead s (Some (bare 2 (get_or s 0 0) (get_or s 1 0)))
  unfolding record_made record_of
  byte_is t l e d = (l, plain (byte_len t) (get_or s 1 0), byte-read t s l e d, refl, λ index. rw (type_byte_lem (get_or s 0 0) (byte_len t) e))

  pub digits_is : (t : ByteLen) → 4 ≤ length s → type_of (get_or s 0 0) ≡ gives (byte_len t) → has_digits (byte_len t) ≡ true →
      IsRead s (Some (with_digits (get_or s 0 0) (get_or s 1 0) (get_or s 2 0) (get_or s 3 0)))
  unfolding record_made record_of
  digits_is t l e d = (
    l,
    with_scale (byte_len t) (get_or s 1 0) (get_or s 2 0) (get_or s 3 0),
    digits_read t s l e d,
    refl,
    λ index. rw (type_byte_lem (get_or s 0 0) (byte_len t) e),
  )

  pub short_is : (t : UShortLen) → 3 ≤ length s → type_of (get_or s 0 0) ≡ gives (u_short_len t) → has_collation (u_short_len t) ≡ false →
      IsRead s (Some (bare 3 (get_or s 0 0) (low_nat (take 2 (drop 1 s)))))
  unfolding record_made record_of
  short_is t l e d = (
    l,
    plain (u_short_len t) (low_nat (take 2 (drop 1 s))),
    short-read t s l e d,
    refl,
    λ index. rw (type_byte_lem (get_or s 0 0) (u_short_len t) e),
  )

  pub text_is : (t : UShortLen) → 8 ≤ length s → type_of (get_or s 0 0) ≡ gives (u_short_len t) → has_collation (u_short_len t) ≡ true →
      IsRead s (Some (with_text (get_or s 0 0) (low_nat (take 2 (drop 1 s))) (low_nat (take 4 (drop 3 s))) (get_or s 7 0)))
  unfolding record_made record_of
  text_is t l e d = (
    l,
    with_sort (u_short_len t) (low_nat (take 2 (drop 1 s))) (low_nat (take 4 (drop 3 s))) (get_or s 7 0),
    text-read t s l e d,
    refl,
    λ index. rw (type_byte_lem (get_or s 0 0) (u_short_len t) e),
  )
