-- What a descriptor is written as: the type byte both ways, the checks in their order, and one form for every type that has a length of w bytes.
-- Assumes nothing.
use Rattle.std.specs.Prelude.{None, Option}
use mathlib.Core.Path.{◌≡◌, refl, sym, ap, ◌∙◌}
use mathlib.Core.List.{List, [], ◌∷◌, ◌++◌, append-nil}
use mathlib.Core.Bool.{Bool, true, false, not}
use Prim.Native.Nat.{ℕ, ◌^◌, ◌<◌}
use lib.Dec.{ltb, eqb}
use borrow.Author.Tests.{lt-ltb, eqb-true, not-false}
use Rattle.lists.proofs.Split.{split}
use Rattle.format.specs.Answer.{gives, rule, not_carried, took}
use Rattle.format.specs.Number.{low_bytes}
use Rattle.format.specs.Descriptor.{FixedLen, ByteLen, UShortLen, LongLen, TypeId, fixed_len, byte_len, u_short_len, long_len, daten, xml, udt}
use Rattle.format.specs.Descriptor.{ss_variant, type_byte, types, among, type_of, Collation, Schema, Column, has_digits, has_collation, length_width}
use Rattle.format.specs.Descriptor.{both, length_fits, digits_fit, collation_fits, keeps_rule, names_fit, digits_bytes, collation_bytes, schema_bytes}
use Rattle.format.specs.Descriptor.{column_bytes, is_described, write_column}
use Rattle.format.proofs.Answer.{no_truth, no_gives, passed}

-- ---- tests

pub both_true : (x y : Bool) → both x y ≡ true → (x ≡ true) × (y ≡ true)
both_true true y h = (refl, h)
both_true false y h = no_truth h

pub same_took : {A : Type 0} (a b : A) (n m : ℕ) → took a n ≡ took b m → (b ≡ a) × (m ≡ n)
same_took a b n m h = (cc, cc)

-- ---- the type byte

among-byte : (ts : List TypeId) (n : ℕ) (t : TypeId) → among ts n ≡ gives t → type_byte t ≡ n
among-byte [] n t h = no_gives _ _ h
among-byte (x ∷ ts) n t h =
    split (eqb n (type_byte x))
    (λ e q. let p : x ≡ t = cc in ap type_byte (sym p) ∙ sym (eqb-true n (type_byte x) e))
    (λ e q. among-byte ts n t q)
    h

-- the type of a byte has that byte
pub type_byte_lem : (n : ℕ) (t : TypeId) → type_of n ≡ gives t → type_byte t ≡ n
unfolding type_of
type_byte_lem n t h = among-byte types n t h

-- and the byte of a type is that type's
pub type_again : (t : TypeId) → type_of (type_byte t) ≡ gives t
unfolding type_of
type_again (fixed_len FixedLen.null) = refl
type_again (fixed_len FixedLen.int1) = refl
type_again (fixed_len FixedLen.bit) = refl
type_again (fixed_len FixedLen.int2) = refl
type_again (fixed_len FixedLen.int4) = refl
type_again (fixed_len FixedLen.datetime4) = refl
type_again (fixed_len FixedLen.float4) = refl
type_again (fixed_len FixedLen.money) = refl
type_again (fixed_len FixedLen.datetime) = refl
type_again (fixed_len FixedLen.float8) = refl
type_again (fixed_len FixedLen.money4) = refl
type_again (fixed_len FixedLen.int8) = refl
type_again (byte_len ByteLen.guid) = refl
type_again (byte_len ByteLen.intn) = refl
type_again (byte_len ByteLen.bitn) = refl
type_again (byte_len ByteLen.decimaln) = refl
type_again (byte_len ByteLen.numericn) = refl
type_again (byte_len ByteLen.floatn) = refl
type_again (byte_len ByteLen.moneyn) = refl
type_again (byte_len ByteLen.datetimen) = refl
type_again (byte_len ByteLen.timen) = refl
type_again (byte_len ByteLen.datetime2) = refl
type_again (byte_len ByteLen.datetime_offsetn) = refl
type_again (u_short_len UShortLen.big_var_bin) = refl
type_again (u_short_len UShortLen.big_var_char) = refl
type_again (u_short_len UShortLen.big_binary) = refl
type_again (u_short_len UShortLen.big_char) = refl
type_again (u_short_len UShortLen.n_varchar) = refl
type_again (u_short_len UShortLen.n_char) = refl
type_again (long_len LongLen.image) = refl
type_again (long_len LongLen.text) = refl
type_again (long_len LongLen.n_text) = refl
type_again daten = refl
type_again xml = refl
type_again udt = refl
type_again ss_variant = refl

-- ---- the checks in their order

module _ (k : Column) where
  pub writes : keeps_rule k ≡ true → names_fit k.schema ≡ true → is_described k.type ≡ true → write_column k ≡ gives (column_bytes k)
  unfolding write_column
  writes h i j = rw (h, i, j)

  -- what could be written kept the rule, and was written as its bytes
  pub record Written (b : List ℕ) : Type 0 where
    pub keeps : keeps_rule k ≡ true
    pub fits : names_fit k.schema ≡ true
    pub described : is_described k.type ≡ true
    pub bytes : column_bytes k ≡ b

  pub written : (b : List ℕ) → write_column k ≡ gives b → Written b
  unfolding write_column
  written b h =
      let p = passed (not (both (keeps_rule k) (names_fit k.schema))) rule _ b h in
      let q = passed (not (is_described k.type)) not_carried _ b p.1 in
      let r = both_true (keeps_rule k) (names_fit k.schema) (not-false _ p.0) in
      record { keeps = r.0; fits = r.1; described = not-false _ q.0; bytes = let e : column_bytes k ≡ b = cc q.1 in e }

-- ---- a type with a length of w bytes, and what it is written as

pub record Form (t : TypeId) (w : ℕ) : Type 0 where
  pub width : length_width t ≡ w
  pub fits : (n : ℕ) → length_fits t n ≡ ltb n (256 ^ w)
  pub described : is_described t ≡ true
  pub bare : schema_bytes t None ≡ []

pub byte-form : (f : ByteLen) → Form (byte_len f) 1
byte-form f = record { width = refl; fits = λ n. refl; described = refl; bare = refl }

pub short-form : (f : UShortLen) → Form (u_short_len f) 2
short-form f = record { width = refl; fits = λ n. refl; described = refl; bare = refl }

pub long-form : (f : LongLen) → Form (long_len f) 4
long-form f = record { width = refl; fits = λ n. refl; described = refl; bare = refl }

abbrev pub column : TypeId → ℕ → ℕ → ℕ → Option Collation → Option Schema → Column
column t n p x l m = record { type = t; length = n; precision = p; scale = x; collation = l; schema = m }

module _ (t : TypeId) (w : ℕ) (f : Form t w) (n p x : ℕ) (l : Option Collation) where
  pub form-bytes : column_bytes (column t n p x l None) ≡ type_byte t ∷ (low_bytes w n ++ (digits_bytes (has_digits t) p x ++ collation_bytes l))
  unfolding column_bytes
  form-bytes = rw (f.width, f.bare, append-nil (collation_bytes l))

  pub form-written : n < 256 ^ w → digits_fit (has_digits t) p x ≡ true → collation_fits (has_collation t) l ≡ true →
      write_column (column t n p x l None) ≡ gives (type_byte t ∷ (low_bytes w n ++ (digits_bytes (has_digits t) p x ++ collation_bytes l)))
  unfolding keeps_rule
  form-written h d c = writes (column t n p x l None) (rw (f.fits n, lt-ltb n (256 ^ w) h, d, c)) refl f.described ∙ ap gives form-bytes
