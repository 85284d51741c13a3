-- Values under a type: `column c`, the codec of every column c.
--   again: a value that fits the column, written and with any bytes behind it, reads as itself and ends where it ends;
--   fits:  what was read of bytes fits the column;
--   short: written again it is no longer.
-- It is the codec of the type's family (FixedWidth, LengthByte, Content) behind rule 6. What a family asks of its type is looked up for each carried type.
-- Assumes nothing.
use Rattle.std.specs.Prelude.{None, Option, Some}
use mathlib.Core.Path.{◌≡◌, refl}
use mathlib.Core.List.{List, ◌++◌}
use mathlib.Core.Bool.{true, not}
use Prim.Native.Nat.{ℕ, ◌+◌, ◌^◌, ◌<◌, ◌≤◌}
use lib.ListN.{length}
use borrow.Author.Tests.{ltb-true, not-false}
use Rattle.format.specs.Answer.{took, rule, not_carried}
use Rattle.format.specs.Descriptor.{FixedLen, ByteLen, UShortLen, TypeId, fixed_len, byte_len, u_short_len, long_len, daten, xml, udt, ss_variant}
use Rattle.format.specs.Descriptor.{Column, length_fits, keeps_rule}
use Rattle.format.specs.Value.{Value, Family, fixed_width, length_byte, content, fixed_family, byte_len_family, u_short_len_family, family_of}
use Rattle.format.specs.Value.{read_family, read_value, encode_family, encode}
use Rattle.format.proofs.Number.{Bytes}
use Rattle.format.proofs.Place.{past, no_took}
use Rattle.format.proofs.Codec.{Codec}
use Rattle.format.proofs.FixedWidth.{Fixed, fixed}
use Rattle.format.proofs.LengthByte.{Listed, Told, listed}
use Rattle.format.proofs.Content.{Held, held}
use Rattle.format.proofs.DescriptorForm.{both_true}

-- A value that fits a family under a declared length.
abbrev pub Fits : ℕ → Option Family → Value → Type 0
Fits n None v = ⊥
Fits n (Some (fixed_width k)) v = Fixed k v
Fits n (Some (length_byte ks)) v = Listed ks n v
Fits n (Some (content k)) v = Held k n v

-- What the laws need to know of a carried type: its listed kinds have a width each of their own, and content has a declared length of two bytes.
abbrev pub Sound : ℕ → Option Family → Type 0
Sound n None = Unit {0}
Sound n (Some (fixed_width k)) = Unit {0}
Sound n (Some (length_byte ks)) = Told ks ks
Sound n (Some (content k)) = n < 256 ^ 2

sound_fixed : (n : ℕ) (t : FixedLen) → Sound n (fixed_family t)
sound_fixed n FixedLen.null = tt
sound_fixed n FixedLen.int1 = tt
sound_fixed n FixedLen.bit = tt
sound_fixed n FixedLen.int2 = tt
sound_fixed n FixedLen.int4 = tt
sound_fixed n FixedLen.datetime4 = tt
sound_fixed n FixedLen.float4 = tt
sound_fixed n FixedLen.money = tt
sound_fixed n FixedLen.datetime = tt
sound_fixed n FixedLen.float8 = tt
sound_fixed n FixedLen.money4 = tt
sound_fixed n FixedLen.int8 = tt

sound_byte : (n : ℕ) (t : ByteLen) → Sound n (byte_len_family t)
sound_byte n ByteLen.guid = (refl, tt)
sound_byte n ByteLen.intn = (refl, (refl, (refl, (refl, tt))))
sound_byte n ByteLen.bitn = (refl, tt)
sound_byte n ByteLen.decimaln = tt
sound_byte n ByteLen.numericn = tt
sound_byte n ByteLen.floatn = (refl, (refl, tt))
sound_byte n ByteLen.moneyn = tt
sound_byte n ByteLen.datetimen = tt
sound_byte n ByteLen.timen = tt
sound_byte n ByteLen.datetime2 = tt
sound_byte n ByteLen.datetime_offsetn = tt

sound_short : (n : ℕ) (t : UShortLen) → n < 256 ^ 2 → Sound n (u_short_len_family t)
sound_short n UShortLen.big_var_bin h = h
sound_short n UShortLen.big_var_char h = tt
sound_short n UShortLen.big_binary h = h
sound_short n UShortLen.big_char h = tt
sound_short n UShortLen.n_varchar h = h
sound_short n UShortLen.n_char h = h

sound : (n : ℕ) (t : TypeId) → length_fits t n ≡ true → Sound n (family_of t)
sound n (fixed_len t) h = sound_fixed n t
sound n (byte_len t) h = sound_byte n t
sound n (u_short_len t) h = sound_short n t (ltb-true n (256 ^ 2) h)
sound n (long_len t) h = tt
sound n daten h = tt
sound n xml h = tt
sound n udt h = tt
sound n ss_variant h = tt

pub sound_column : (c : Column) → keeps_rule c ≡ true → Sound c.length (family_of c.type)
unfolding keeps_rule
sound_column c h = sound c.length c.type (both_true (length_fits c.type c.length) _ h).0

pub family : (n : ℕ) (f : Option Family) → Sound n f → Codec (read_family n f) (encode_family n f) (Fits n f) 0
family n None t = record { again = λ v rest f. absurd f; fits = λ s v m b h. no_took not_carried v m h; short = λ s v m b h. no_took not_carried v m h }
family n (Some (fixed_width k)) t = fixed n k
family n (Some (length_byte ks)) t = listed n ks t
family n (Some (content k)) t = held n k t

-- By how many bytes a value of a column may grow when it is written again: none.
abbrev pub growth : Column → ℕ
growth c = 0

-- A value that fits a column.
abbrev pub Fit : Column → Value → Type 0
Fit c v = (keeps_rule c ≡ true) × Fits c.length (family_of c.type) v

module _ (c : Column) where
  column_again : (v : Value) (rest : List ℕ) → Fit c v → read_value c (encode c v ++ rest) ≡ took v (length (encode c v))
  unfolding read_value encode
  column_again v rest f = rw f.0 ((family c.length (family_of c.type) (sound_column c f.0)).again v rest f.1)

  -- what was read: the rule is kept, and the family read it
  column-took : (s : List ℕ) (v : Value) (n : ℕ) → read_value c s ≡ took v n → (keeps_rule c ≡ true) × (read_family c.length (family_of c.type) s ≡ took v n)
  unfolding read_value
  column-took s v n h = let p = past (not (keeps_rule c)) rule _ v n h in (not-false (keeps_rule c) p.0, p.1)

  column_fits : (s : List ℕ) (v : Value) (n : ℕ) → Bytes s → read_value c s ≡ took v n → Fit c v
  column_fits s v n b h =
      let p = column-took s v n h in
      (p.0, (family c.length (family_of c.type) (sound_column c p.0)).fits s v n b p.1)

  column-short : (s : List ℕ) (v : Value) (n : ℕ) → Bytes s → read_value c s ≡ took v n → length (encode c v) ≤ n + growth c
  unfolding encode
  column-short s v n b h =
      let p = column-took s v n h in
      (family c.length (family_of c.type) (sound_column c p.0)).short s v n b p.1

  pub column : Codec (read_value c) (encode c) (Fit c) (growth c)
  column = record { again = column_again; fits = column_fits; short = column-short }
