-- A record whose type byte and length are the only numbers that are not zero stands for the column with that type and that length, and nothing else. So what
-- the two numbers name, the record says.
-- Assumes nothing.
use Rattle.std.specs.Prelude.{None, Option, Some}
use mathlib.Core.Path.{◌≡◌, sym, ap, ◌∙◌}
use mathlib.Core.Bool.{true}
use mathlib.Core.List.{List, [], ◌∷◌, ◌++◌}
use Prim.Native.Nat.{ℕ, ◌+◌, ◌-◌, ◌*◌, ◌%◌, ◌/◌, ◌^◌, ◌<◌, ◌≤◌}
use native.Mathlib.Omega.{arith}
use lib.ListN.{length, get_or, take, drop, length-drop, take-append-drop}
use lib.Seq.{length-take-le, drop-drop}
use lib.Dec.{leb}
use borrow.Author.Tests.{le-leb}
use Rattle.format.specs.Number.{low_nat, low_bytes}
use Rattle.format.specs.Descriptor.{FixedLen, ByteLen, TypeId, fixed_len, byte_len, fixed_byte, byte_len_byte, type_byte, plain}
use Rattle.format.specs.Scalar.{Kind, place, width}
use Rattle.format.specs.Value.{untyped_type}
use Rattle.format.proofs.Number.{Bytes, low_forth, low_back}
use Rattle.format.proofs.Plain.{bytes_take, bytes_drop}
use Rattle.format.proofs.DescriptorForm.{type_again}
use Rattle.value_kind.specs.Told.{kind_told}
use Rattle.value_kind.proofs.ScalarLaws.{width_most}
use Rattle.packed.specs.Packed.{keeps_places, column_of, no_names}
use Rattle.packed_plain.specs.Says.{bare_type, Named, Names, Says, Tells}
use Rattle.packed_plain.specs.declared.Plain.{Plain}
use Rattle.packed_plain.specs.declared.Plain.TheVariants as P

-- a kind that is not the bit
pub not_bit : (k : Kind) → 1 < place k → k ≡ Kind.bit → ⊥
not_bit k l e = omega (arith, l, ap place e)

-- ---- the record

byte_low : (x : ℕ) → x < 256 → low_bytes 4 x ≡ x ∷ 0 ∷ 0 ∷ 0 ∷ []
byte_low x l =
    let m : x % 256 ≡ x = omega arith in
    let q : x / 256 ≡ 0 = omega arith in
    rw (m, q)

numbers_only : (t : TypeId) (n : ℕ) (rest : List ℕ) → n < 256 ^ 4
    → column_of (type_byte t ∷ 0 ∷ 0 ∷ 0 ∷ (low_bytes 4 n ++ (0 ∷ 0 ∷ 0 ∷ 0 ∷ 0 ∷ 0 ∷ 0 ∷ 0 ∷ rest))) no_names ≡ plain t n
unfolding column_of keeps_places
numbers_only t n rest l =
    let r = type_byte t ∷ 0 ∷ 0 ∷ 0 ∷ (low_bytes 4 n ++ (0 ∷ 0 ∷ 0 ∷ 0 ∷ 0 ∷ 0 ∷ 0 ∷ 0 ∷ rest)) in
    let long : leb 16 (length r) ≡ true = le-leb 16 (length r) (omega arith) in
    rw (long, type_again t, low_back 4 n l)

small_fixed : (t : FixedLen) → fixed_byte t < 256
small_fixed FixedLen.null = omega arith
small_fixed FixedLen.int1 = omega arith
small_fixed FixedLen.bit = omega arith
small_fixed FixedLen.int2 = omega arith
small_fixed FixedLen.int4 = omega arith
small_fixed FixedLen.datetime4 = omega arith
small_fixed FixedLen.float4 = omega arith
small_fixed FixedLen.money = omega arith
small_fixed FixedLen.datetime = omega arith
small_fixed FixedLen.float8 = omega arith
small_fixed FixedLen.money4 = omega arith
small_fixed FixedLen.int8 = omega arith

small_counted : (t : ByteLen) → byte_len_byte t < 256
small_counted ByteLen.guid = omega arith
small_counted ByteLen.intn = omega arith
small_counted ByteLen.bitn = omega arith
small_counted ByteLen.decimaln = omega arith
small_counted ByteLen.numericn = omega arith
small_counted ByteLen.floatn = omega arith
small_counted ByteLen.moneyn = omega arith
small_counted ByteLen.datetimen = omega arith
small_counted ByteLen.timen = omega arith
small_counted ByteLen.datetime2 = omega arith
small_counted ByteLen.datetime_offsetn = omega arith

low_eight : (n : ℕ) → n < 256 ^ 4 → low_bytes 8 n ≡ low_bytes 4 n ++ (0 ∷ 0 ∷ 0 ∷ 0 ∷ [])
low_eight n l =
    let q : n / 256 / 256 / 256 / 256 ≡ 0 = omega arith in
    rw q

module _ (r : List ℕ) (b : Bytes r) (l : 16 ≤ length r) where
  part_is : (o w n : ℕ) → o + w ≤ length r → low_nat (take w (drop o r)) ≡ n → take w (drop o r) ≡ low_bytes w n
  part_is o w n h e =
      let k : length (take w (drop o r)) ≡ w = length-take-le w (drop o r) (omega (arith, length-drop o r, h)) in
      sym (rw (k, e) at (low_forth (take w (drop o r)) (bytes_take w (drop o r) (bytes_drop o r b))))

  -- the record, taken apart
  parts : r ≡ take 4 r ++ (take 8 (drop 4 r) ++ (take 4 (drop 12 r) ++ drop 16 r))
  parts =
      let one = sym (take-append-drop 4 r) in
      let two = sym (take-append-drop 8 (drop 4 r)) in
      let three = sym (take-append-drop 4 (drop 12 r)) in
      one
      ∙ ap (λ (x : List ℕ). take 4 r ++ x)
      (two ∙ ap (λ (x : List ℕ). take 8 (drop 4 r) ++ x) (drop-drop 8 4 r ∙ (three ∙ ap (λ (x : List ℕ). take 4 (drop 12 r) ++ x) (drop-drop 4 12 r))))

  -- type, flags, precision and scale; length and collation; sort byte and index
  record Read (ty n last : ℕ) : Type 0 where
    pub first : low_nat (take 4 r) ≡ ty
    pub second : low_nat (take 8 (drop 4 r)) ≡ n
    pub third : low_nat (take 4 (drop 12 r)) ≡ last

  of_numbers : (t : TypeId) (n : ℕ) → type_byte t < 256 → n < 256 ^ 4 → Read (type_byte t) n 0 → column_of r no_names ≡ plain t n
  of_numbers t n small m z =
      let p = part_is 0 4 (type_byte t) (omega (arith, l)) z.first ∙ byte_low (type_byte t) small in
      let q = part_is 4 8 n (omega (arith, l)) z.second ∙ low_eight n m in
      let s = part_is 12 4 0 (omega (arith, l)) z.third in
      rw parts (rw (p, q, s) (numbers_only t n (drop 16 r) m))

  -- a number below 256 is the type byte alone
  alone : (ty n last key : ℕ) → key < 256 → ty + 4294967296 * last ≡ key → Read ty n last → Read key n 0
  alone ty n last key k e z =
      let p : ty ≡ key = omega arith in
      let q : last ≡ 0 = omega arith in
      rw (p, q) at z

  -- what the numbers name
  says : (p : Plain) (ty n last key : ℕ) → Named p key n → ty + 4294967296 * last ≡ key → Read ty n last → Says p (column_of r no_names)
  says (P.Bare k) ty n last key d e z =
      let t = bare_type (kind_told k) in
      let s = small_fixed t in
      let a = alone ty n last (fixed_byte t) s (e ∙ d.0) z in
      (of_numbers (fixed_len t) 0 s (omega arith) (rw d.1 at a), d.2)
  says (P.Counted k) ty n last key d e z =
      let t = untyped_type (kind_told k) in
      let s = small_counted t in
      let a = alone ty n last (byte_len_byte t) s (e ∙ d.0) z in
      let w = width (kind_told k) in
      (of_numbers (byte_len t) w s (omega (arith, width_most (kind_told k))) (rw d.1 at a), d.2)

-- ---- a record of a table

module _ (table : List ℕ) (at : ℕ) (known : (i : ℕ) → get_or table i 0 ≤ 255) (there : 16 ≤ length table - at) where
  abbrev record_at_lem : List ℕ
  record_at_lem = drop at table

  bytes : Bytes record_at_lem
  bytes = bytes_drop at table (λ i. omega (arith, known i))

  whole : 16 ≤ length record_at_lem
  whole = omega (arith, length-drop at table, there)

  -- what its numbers name
  pub table_says : (p : Plain) (ty n last key : ℕ) → ty ≡ low_nat (take 4 record_at_lem) → n ≡ low_nat (take 8 (drop (at + 4) table))
      → last ≡ low_nat (take 4 (drop (at + 12) table)) → ty + 4294967296 * last ≡ key → Named p key n → Says p (column_of record_at_lem no_names)
  table_says p ty n last key a b c e d =
      says record_at_lem bytes whole p ty n last key d e (record {
        first = sym a;
        second = ap (λ (l : List ℕ). low_nat (take 8 l)) (drop-drop 4 at table) ∙ sym b;
        third = ap (λ (l : List ℕ). low_nat (take 4 l)) (drop-drop 12 at table) ∙ sym c;
      })

  -- the same where nothing may be named
  pub table_tells : (o : Option Plain) (ty n last key : ℕ) → ty ≡ low_nat (take 4 record_at_lem) → n ≡ low_nat (take 8 (drop (at + 4) table))
      → last ≡ low_nat (take 4 (drop (at + 12) table)) → ty + 4294967296 * last ≡ key → Names o key n → Tells o (column_of record_at_lem no_names)
  table_tells (Some p) ty n last key a b c e d = table_says p ty n last key a b c e d
  table_tells None ty n last key a b c e d = tt
