-- Values of one width under the columns that have them, by their numbers: what is written, and how many bytes.
-- Why it holds: kind by kind the definitions compute, and a number's low bytes are those of what is left of it at the width.
-- Assumes nothing.
use Rattle.std.specs.Prelude.{Option, Some}
use mathlib.Core.Path.{◌≡◌, refl, sym, ap, ◌∙◌}
use mathlib.Core.Bool.{false, not}
use mathlib.Core.List.{List, [], ◌∷◌, ◌++◌}
use Prim.Native.Nat.{ℕ, zero, suc, ◌+◌, ◌*◌, ◌/◌, ◌%◌, ◌^◌, ◌<◌}
use native.Mathlib.Nat.{add-zero, mod-lt, pow-suc, mul_assoc, mul_comm, div-add-mod}
use native.Mathlib.Omega.{arith}
use lib.Dec.{eqb}
use lib.ListN.{length, get_or, drop}
use lib.Seq.{get_or-drop, sets}
use borrow.Author.Tests.{ne_eqb}
use Rattle.lists.proofs.Split.{clash}
use Rattle.lists.proofs.Front.{sets_then}
use Rattle.format.specs.Answer.{gives}
use Rattle.format.specs.Number.{low_bytes, high_bytes, signed, unsigned}
use Rattle.format.specs.Descriptor.{keeps_rule}
use Rattle.format.specs.Scalar.{Kind, Scalar, width, place, scalar_bytes}
use Rattle.format.specs.Value.{Given, write_value}
use Rattle.format.proofs.Number.{signed_forth}
use Rattle.format.proofs.Scalar.{length-guid}
use Rattle.value_kind.specs.declared.kinds.Kind as K
use Rattle.value_kind.specs.Told.{kind_told}
use Rattle.packed.specs.Packed.{column_of, no_names}
use Rattle.packed.proofs.Told.{plain_told}
use Rattle.packed_value.specs.Numbers.{narrow, value_of}
use Rattle.packed_value.proofs.Told.{value_told_lem}
use Rattle.packed_plain.specs.Says.{bare_column, counted_column, IsBare, Tells}
use Rattle.packed_plain.specs.declared.Plain.{Plain}
use Rattle.packed_plain.specs.declared.Plain.TheVariants as P
use Rattle.plain_write.specs.Bytes.{kind_bytes, plain_bytes, Takes, Sizes, written_at}

-- ---- numbers

-- what lies above the width does not show
low-above : (w q n : ℕ) → low_bytes w (256 ^ w * q + n) ≡ low_bytes w n
low-above zero q n = refl
low-above (suc w) q n =
    let t = 256 ^ w * q in
    let m : 256 ^ suc w * q ≡ 256 * t = ap (λ (k : ℕ). k * q) (pow-suc 256 w) ∙ omega (arith, mul_assoc 256 (256 ^ w) q, mul_comm 256 (256 ^ w)) in
    let a : (256 * t + n) % 256 ≡ n % 256 = omega arith in
    let b : (256 * t + n) / 256 ≡ t + n / 256 = omega arith in
    rw (m, a, b, low-above w q (n / 256))

low_cut : (w n : ℕ) → low_bytes w (n % 256 ^ w) ≡ low_bytes w n
low_cut w n = sym (low-above w (n / 256 ^ w) (n % 256 ^ w)) ∙ ap (low_bytes w) (div-add-mod n (256 ^ w))

-- two's complement and back
low_narrow : (w n : ℕ) → 0 < w → 0 < 256 ^ w → low_bytes w (unsigned w (narrow w n)) ≡ low_bytes w n
low_narrow w n p q = ap (low_bytes w) (signed_forth w (n % 256 ^ w) p (mod-lt n q)) ∙ low_cut w n

-- ---- a value of a kind

-- the bytes are as many as the kind is wide
pub length-kind : (k : Kind) (first second : ℕ) → length (kind_bytes k first second) ≡ width k
unfolding kind_bytes
length-kind Kind.bit first second = refl
length-kind Kind.u8 first second = refl
length-kind Kind.i16 first second = refl
length-kind Kind.i32 first second = refl
length-kind Kind.i64 first second = refl
length-kind Kind.f32 first second = refl
length-kind Kind.f64 first second = refl
length-kind Kind.guid first second = length-guid (high_bytes 8 first ++ high_bytes 8 second)

module _ (first second : ℕ) where
  -- the value that the numbers are
  abbrev scalar_in : Kind → Scalar
  scalar_in Kind.bit = Scalar.bit (not (eqb first 0))
  scalar_in Kind.u8 = Scalar.u8 (first % 256)
  scalar_in Kind.i16 = Scalar.i16 (narrow 2 first)
  scalar_in Kind.i32 = Scalar.i32 (narrow 4 first)
  scalar_in Kind.i64 = Scalar.i64 (signed 8 first)
  scalar_in Kind.f32 = Scalar.f32 (first % 256 ^ 4)
  scalar_in Kind.f64 = Scalar.f64 (first % 256 ^ 8)
  scalar_in Kind.guid = Scalar.guid (high_bytes 8 first ++ high_bytes 8 second)

  given_is : (buffer : List ℕ) (k : Kind) → value_of buffer (place k) first second ≡ Given.scalar (scalar_in k)
  unfolding value_of
  given_is buffer Kind.bit = refl
  given_is buffer Kind.u8 = refl
  given_is buffer Kind.i16 = refl
  given_is buffer Kind.i32 = refl
  given_is buffer Kind.i64 = refl
  given_is buffer Kind.f32 = refl
  given_is buffer Kind.f64 = refl
  given_is buffer Kind.guid = refl

  -- its bytes, alone and behind their count
  bytes_are : (k : Kind) → (k ≡ Kind.bit → ⊥) → first < 256 ^ 8 → scalar_bytes (scalar_in k) ≡ kind_bytes k first second
  unfolding scalar_bytes kind_bytes
  bytes_are Kind.bit n l = absurd (n refl)
  bytes_are Kind.u8 n l = low_cut 1 first
  bytes_are Kind.i16 n l = low_narrow 2 first (omega arith) (omega arith)
  bytes_are Kind.i32 n l = low_narrow 4 first (omega arith) (omega arith)
  bytes_are Kind.i64 n l = ap (low_bytes 8) (signed_forth 8 first (omega arith) l)
  bytes_are Kind.f32 n l = low_cut 4 first
  bytes_are Kind.f64 n l = low_cut 8 first
  bytes_are Kind.guid n l = refl

  bare_is : (k : Kind) → IsBare k → write_value (bare_column k) (Given.scalar (scalar_in k)) ≡ gives (scalar_bytes (scalar_in k))
  unfolding write_value keeps_rule
  bare_is Kind.bit b = refl
  bare_is Kind.u8 b = refl
  bare_is Kind.i16 b = refl
  bare_is Kind.i32 b = refl
  bare_is Kind.i64 b = refl
  bare_is Kind.f32 b = refl
  bare_is Kind.f64 b = refl
  bare_is Kind.guid b =
      let h = b.0 in
      clash cc

  counted_is : (k : Kind) → write_value (counted_column k) (Given.scalar (scalar_in k)) ≡ gives (width k ∷ scalar_bytes (scalar_in k))
  unfolding write_value keeps_rule
  counted_is Kind.bit = refl
  counted_is Kind.u8 = refl
  counted_is Kind.i16 = refl
  counted_is Kind.i32 = refl
  counted_is Kind.i64 = refl
  counted_is Kind.f32 = refl
  counted_is Kind.f64 = refl
  counted_is Kind.guid = refl

-- null
null-written : (k : Kind) → write_value (counted_column k) Given.null ≡ gives (0 ∷ [])
unfolding write_value keeps_rule
null-written Kind.bit = refl
null-written Kind.u8 = refl
null-written Kind.i16 = refl
null-written Kind.i32 = refl
null-written Kind.i64 = refl
null-written Kind.f32 = refl
null-written Kind.f64 = refl
null-written Kind.guid = refl

null_is : (buffer : List ℕ) (first second : ℕ) → value_of buffer 0 first second ≡ Given.null
unfolding value_of
null_is buffer first second = refl

-- ---- behind a count

module _ (k : K.Kind) (kind first second : ℕ) where
  pub null-bytes : kind ≡ 0 → plain_bytes (Some (P.Counted k)) kind first second ≡ 0 ∷ []
  null-bytes e = rw e

  pub counted-bytes : (kind ≡ 0 → ⊥) → plain_bytes (Some (P.Counted k)) kind first second ≡ width (kind_told k) ∷ kind_bytes (kind_told k) first second
  counted-bytes z = rw (ne_eqb kind 0 z)

-- the count, then the bytes
pub counted_put : (out mid after bs : List ℕ) (at w n : ℕ) → mid ≡ sets out at (w ∷ []) → after ≡ sets mid (at + 1) bs → w ≡ n → after ≡ sets out at (n ∷ bs)
counted_put out mid after bs at w n e f g = rw (f, e, ← g) (sets_then out at (at + 1) (w ∷ []) bs refl)

-- ---- what the code answers

module _ (k : K.Kind) (kind : ℕ) where
  pub bare_size : (w : ℕ) → kind ≡ place (kind_told k) → w ≡ width (kind_told k) → Sizes (Some (P.Bare k)) kind w
  bare_size w e f c said buffer first second l =
      record {
        written = rw (said.0, e, given_is first second buffer (kind_told k))
            (bare_is first second (kind_told k) said.1 ∙ ap gives (bytes_are first second (kind_told k) said.1.1 l));
        counted = length-kind (kind_told k) first second ∙ sym f;
      }

  pub null_size : kind ≡ 0 → Sizes (Some (P.Counted k)) kind 1
  null_size e c said buffer first second l =
      record {
        written = rw (said.0, e, null_is buffer first second) (null-written (kind_told k));
        counted = rw e;
      }

  pub counted_size : (w : ℕ) → (kind ≡ 0 → ⊥) → kind ≡ place (kind_told k) → w ≡ width (kind_told k) → Sizes (Some (P.Counted k)) kind (1 + w)
  counted_size w z e f c said buffer first second l =
      let t : eqb kind 0 ≡ false = ne_eqb kind 0 z in
      let b = bytes_are first second (kind_told k) said.1 l in
      record {
        written = rw (t, said.0, e, given_is first second buffer (kind_told k))
            (counted_is first second (kind_told k) ∙ ap (λ (bs : List ℕ). gives (width (kind_told k) ∷ bs)) b);
        counted = rw (t, length-kind (kind_told k) first second) (omega (arith, f));
      }

-- ---- the value at a place of a list, under the column of a record

module _ (table values buffer : List ℕ) (i : ℕ) where
  -- its three numbers
  abbrev pub kind_at : ℕ
  kind_at = get_or values (3 * i) 0

  abbrev pub first_at : ℕ
  first_at = get_or values (3 * i + 1) 0

  abbrev pub second_at : ℕ
  second_at = get_or values (3 * i + 2) 0

  as_numbers : written_at table values buffer i ≡ write_value (column_of (drop (16 * i) table) no_names) (value_of buffer kind_at first_at second_at)
  as_numbers =
      let at = 3 * i in
      rw (
        plain_told buffer (drop (16 * i) table),
        value_told_lem buffer (get_or (drop at values) 0 0) (get_or (drop at values) 1 0)
            (get_or (drop at values) 2 0),
      )
      (rw (get_or-drop at values 0 0, get_or-drop at values 1 0, get_or-drop at values 2 0, add-zero at))

  pub taken_at : (p : Option Plain) (n : ℕ) → Tells p (column_of (drop (16 * i) table) no_names) → Sizes p kind_at n → first_at < 256 ^ 8
      → Takes (written_at table values buffer i) (plain_bytes p kind_at first_at second_at) n
  taken_at p n said size l =
      rw as_numbers (size (column_of (drop (16 * i) table) no_names) said buffer first_at second_at l)
