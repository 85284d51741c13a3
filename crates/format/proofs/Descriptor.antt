-- Descriptors, both ways (demand 3's sentence on descriptors), of the definitions alone.
--
-- Every descriptor that is read of bytes is written again as the bytes that it was read from, save Xml with a marker other than 0 and 1, which is written
-- with the marker 0; and every descriptor that can be written reads back as itself, whatever follows it:
--   written_again : Bytes s → read_column s ≡ took c n → odd_marker s ≡ false → write_column c ≡ gives (take n s)
--   odd-marker    : read_column s ≡ took c n → odd_marker s ≡ true → (write_column c ≡ gives (0xF1 ∷ 0 ∷ [])) × (n ≡ 2)
--   again         : write_column c ≡ gives b → read_column (b ++ rest) ≡ took c (length b)
-- where odd_marker s says that s begins with F1 and a byte that is neither 0 nor 1.
-- Assumes nothing.
use Rattle.std.specs.Prelude.{None, Option, Some}
use mathlib.Core.Path.{◌≡◌, refl, sym, ap, ◌∙◌}
use mathlib.Core.List.{List, [], ◌∷◌, ◌++◌, append-nil}
use mathlib.Core.Bool.{Bool, true, false, not}
use Prim.Native.Nat.{ℕ, ◌*◌, ◌/◌, ◌%◌, ◌^◌, ◌<◌}
use native.Mathlib.Omega.{arith}
use lib.ListN.{length, take, drop}
use lib.Dec.{ltb, eqb}
use borrow.Author.Tests.{ltb-true, eqb-true, not-true}
use Rattle.lists.specs.Pick.{pick}
use Rattle.format.specs.Answer.{Answer, gives, refuses, took, then_read, map_read, Part, inside, outside}
use Rattle.format.specs.Number.{low_bytes, read_byte, read_low}
use Rattle.format.specs.Descriptor.{ByteLen, TypeId, fixed_len, byte_len, u_short_len, long_len, daten, xml, udt, ss_variant, type_byte, type_of}
use Rattle.format.specs.Descriptor.{Collation, Schema, Column, plain, has_digits, has_collation, daten_length, read_sort, read_collation, read_scale}
use Rattle.format.specs.Descriptor.{read_digits, read_units, read_name, with_names, read_third, read_second, schema_marker, read_schema, read_fields}
use Rattle.format.specs.Descriptor.{read_typed, read_type, read_column, both, length_fits, digits_fit, collation_fits, schema_fits, keeps_rule}
use Rattle.format.specs.Descriptor.{name_fits, names_fit, digits_bytes, collation_bytes, name_bytes, column_bytes, is_described, write_column}
use Rattle.format.proofs.Answer.{no_truth}
use Rattle.format.proofs.Number.{Bytes}
use Rattle.format.proofs.Place.{no_took}
use Rattle.format.proofs.Plain.{bytes_drop, bytes_again, low_again}
use Rattle.format.proofs.Codec.{then_again}
use Rattle.format.proofs.DescriptorForm.{both_true, same_took, type_byte_lem, type_again, written, Form, byte-form, short-form, long-form, column}
use Rattle.format.proofs.DescriptorForm.{form-bytes}
use Rattle.format.proofs.DescriptorRead.{then_cut, byte_cut, odd, byte-front, bare-written, fields_cut}

-- Xml with a marker other than 0 and 1
abbrev pub odd_marker : List ℕ → Bool
odd_marker [] = false
odd_marker (b ∷ s) = both (eqb b (type_byte xml)) (odd s)

-- ---- what was read is written again

-- a type byte that was read, and its type
known : (n : ℕ) (s : List ℕ) (c : Column) (k : ℕ) → read_type n s ≡ took c k → (t : TypeId) × (type_byte t ≡ n) × (read_fields t s ≡ took c k)
known n s c k h = go (type_of n) refl h
  where
    go : (a : Answer TypeId) → type_of n ≡ a → read_typed a s ≡ took c k → (t : TypeId) × (type_byte t ≡ n) × (read_fields t s ≡ took c k)
    go (gives t) e q = (t, type_byte_lem n t e, q)
    go (refuses r) e q = no_took r c k q

pub written_again : (s : List ℕ) (c : Column) (n : ℕ) → Bytes s → read_column s ≡ took c n → odd_marker s ≡ false → write_column c ≡ gives (take n s)
unfolding read_column
written_again s c n b h o =
    let a = then_cut read_byte read_type s c n h in
    let u = byte_cut s a.0 a.1 b a.3 in
    let f = byte-front s a.0 a.1 a.3 in
    let t = known a.0 (drop a.1 s) c a.2 a.4 in
    let i : take n s ≡ type_byte t.0 ∷ take a.2 (drop a.1 s) = rw (a.5, u.0, t.1) in
    let d : t.0 ≡ xml → odd (drop a.1 s) ≡ false = λ q. unmarked a.0 (drop a.1 s) (sym t.1 ∙ ap type_byte q) (rw f at o) in
    rw i (fields_cut t.0 (drop a.1 s) c a.2 (bytes_drop a.1 s b) d t.2)
  where
    unmarked : (m : ℕ) (l : List ℕ) → m ≡ type_byte xml → odd_marker (m ∷ l) ≡ false → odd l ≡ false
    unmarked m l e q = rw e at q

pub odd-marker : (s : List ℕ) (c : Column) (n : ℕ) → read_column s ≡ took c n → odd_marker s ≡ true → (write_column c ≡ gives (0xF1 ∷ 0 ∷ [])) × (n ≡ 2)
unfolding read_column then_read read_byte
odd-marker [] c n h o = no_truth o
odd-marker (x ∷ []) c n h o = no_truth (both_true (eqb x (type_byte xml)) false o).1
odd-marker (x ∷ m ∷ l) c n h o =
    let p = both_true (eqb x (type_byte xml)) (odd (m ∷ l)) o in
    let e : type_of x ≡ gives xml = ap type_of (eqb-true x (type_byte xml) p.0) ∙ type_again xml in
    let g : eqb m schema_marker ≡ false = not-true _ (both_true (not (eqb m 0)) (not (eqb m schema_marker)) p.1).1 in
    let r = same_took (plain xml 0) c 2 n (rw (e, g) at h) in
    (rw r.0 bare-written, r.1)

-- ---- what was written reads back

-- the type byte, and what follows it
typed_again : (t : TypeId) (x rest : List ℕ) (c : Column) → read_fields t (x ++ rest) ≡ took c (length x) →
    read_column ((type_byte t ∷ x) ++ rest) ≡ took c (length (type_byte t ∷ x))
unfolding read_column read_byte
typed_again t x rest c q =
    then_again read_byte read_type (type_byte t ∷ []) x rest (type_byte t) c (λ more. refl)
    (ap (λ (a : Answer TypeId). read_typed a (x ++ rest)) (type_again t) ∙ q)

-- the rule, part by part
record Kept (t : TypeId) (n p x : ℕ) (l : Option Collation) (m : Option Schema) : Type 0 where
  fits : length_fits t n ≡ true
  digits : digits_fit (has_digits t) p x ≡ true
  collation : collation_fits (has_collation t) l ≡ true
  schema : schema_fits t m ≡ true

kept : (t : TypeId) (n p x : ℕ) (l : Option Collation) (m : Option Schema) → keeps_rule (column t n p x l m) ≡ true → Kept t n p x l m
unfolding keeps_rule
kept t n p x l m h =
    let a = both_true (length_fits t n) _ h in
    let b = both_true (digits_fit (has_digits t) p x) _ a.1 in
    let c = both_true (collation_fits (has_collation t) l) (schema_fits t m) b.1 in
    record { fits = a.0; digits = b.0; collation = c.0; schema = c.1 }

zeros : (b : Bool) (p x : ℕ) → b ≡ false → digits_fit b p x ≡ true → (p ≡ 0) × (x ≡ 0)
zeros true p x e h = no_truth (sym e)
zeros false p x e h = let q = both_true (eqb p 0) (eqb x 0) h in (eqb-true p 0 q.0, eqb-true x 0 q.1)

no_collation : (b : Bool) (l : Option Collation) → b ≡ false → collation_fits b l ≡ true → l ≡ None
no_collation b None e h = refl
no_collation true (Some c) e h = no_truth (sym e)
no_collation false (Some c) e h = no_truth h

no_schema : (t : TypeId) (m : Option Schema) → ((n : Schema) → schema_fits t (Some n) ≡ false) → schema_fits t m ≡ true → m ≡ None
no_schema t None f h = refl
no_schema t (Some n) f h = no_truth (sym (f n) ∙ h)

-- a type that is its byte alone
bare_again : (t : TypeId) (n : ℕ) → column_bytes (plain t n) ≡ type_byte t ∷ [] → ((s : List ℕ) → read_fields t s ≡ took (plain t n) 0) →
    (rest : List ℕ) → read_column (column_bytes (plain t n) ++ rest) ≡ took (plain t n) (length (column_bytes (plain t n)))
bare_again t n e f rest = rw e (typed_again t [] rest (plain t n) (f rest))

digits_again : (t : TypeId) (n p x : ℕ) (rest : List ℕ) → digits_fit (has_digits t) p x ≡ true →
    read_digits t n (digits_bytes (has_digits t) p x ++ rest) ≡ took (column t n p x None None) (length (digits_bytes (has_digits t) p x))
unfolding then_read read_byte
digits_again t n p x rest h = go (has_digits t) h
  where
    go : (b : Bool) → digits_fit b p x ≡ true →
        pick b (then_read read_byte (read_scale t n) (digits_bytes b p x ++ rest)) (took (plain t n) 0)
        ≡ took (column t n p x None None) (length (digits_bytes b p x))
    go true q = refl
    go false q = let z = zeros false p x refl q in rw (z.0, z.1)

collation_again : (t : TypeId) (n : ℕ) (l : Option Collation) (rest : List ℕ) → collation_fits (has_collation t) l ≡ true →
    read_collation t n (collation_bytes l ++ rest) ≡ took (column t n 0 0 l None) (length (collation_bytes l))
unfolding read_byte
collation_again t n None rest h = go (has_collation t) h
  where
    go : (b : Bool) → collation_fits b None ≡ true → pick b (then_read (read_low 4) (read_sort t n) rest) (took (plain t n) 0) ≡ took (plain t n) 0
    go true q = no_truth q
    go false q = refl
collation_again t n (Some c) rest h = go (has_collation t) h
  where
    go : (b : Bool) → collation_fits b (Some c) ≡ true →
        pick b (then_read (read_low 4) (read_sort t n) ((low_bytes 4 c.info ++ (c.sort ∷ [])) ++ rest)) (took (plain t n) 0)
        ≡ took (column t n 0 0 (Some c) None) (length (low_bytes 4 c.info ++ (c.sort ∷ [])))
    go true q =
        let i = ltb-true c.info (256 ^ 4) (both_true (ltb c.info (256 ^ 4)) (ltb c.sort 256) q).0 in
        then_again (read_low 4) (read_sort t n) (low_bytes 4 c.info) (c.sort ∷ []) rest c.info (column t n 0 0 (Some c) None)
        (λ more. low_again 4 c.info more i) refl
    go false q = no_truth q

-- a type with a length of w bytes
module _ (t : TypeId) (w : ℕ) (f : Form t w) (n p x : ℕ) (l : Option Collation) (rest : List ℕ) (k : Kept t n p x l None) where
  form-again :
      read_fields t ((low_bytes w n ++ (digits_bytes (has_digits t) p x ++ collation_bytes l)) ++ rest)
      ≡ took (column t n p x l None) (length (low_bytes w n ++ (digits_bytes (has_digits t) p x ++ collation_bytes l))) →
      read_column (column_bytes (column t n p x l None) ++ rest) ≡ took (column t n p x l None) (length (column_bytes (column t n p x l None)))
  form-again q =
      rw (form-bytes t w f n p x l) (typed_again t (low_bytes w n ++ (digits_bytes (has_digits t) p x ++ collation_bytes l)) rest (column t n p x l None) q)

  below : n < 256 ^ w
  below = ltb-true n (256 ^ w) (sym (f.fits n) ∙ k.fits)

  wide_again : has_digits t ≡ false → ((s : List ℕ) → read_fields t s ≡ then_read (read_low w) (read_collation t) s) →
      read_column (column_bytes (column t n p x l None) ++ rest) ≡ took (column t n p x l None) (length (column_bytes (column t n p x l None)))
  wide_again e r =
      let z = zeros (has_digits t) p x e k.digits in
      let q =
      then_again (read_low w) (read_collation t) (low_bytes w n) (collation_bytes l) rest n (column t n 0 0 l None) (λ more. low_again w n more below)
      (collation_again t n l rest k.collation) in
      form-again (rw (z.0, z.1, e) (r _ ∙ q))

byte_len_again : (g : ByteLen) (n p x : ℕ) (rest : List ℕ) → Kept (byte_len g) n p x None None →
    read_column (column_bytes (column (byte_len g) n p x None None) ++ rest)
    ≡ took (column (byte_len g) n p x None None) (length (column_bytes (column (byte_len g) n p x None None)))
unfolding read_byte
byte_len_again g n p x rest k =
    let t = byte_len g in
    let i : n % 256 ≡ n = omega (arith, ltb-true n 256 k.fits) in
    let q =
    then_again read_byte (read_digits t) (n ∷ []) (digits_bytes (has_digits t) p x) rest n (column t n p x None None) (λ more. refl)
    (digits_again t n p x rest k.digits) in
    form-again t 1 (byte-form g) n p x None rest k (rw (i, append-nil (digits_bytes (has_digits (byte_len g)) p x)) q)

-- names
name_again : (w : ℕ) (a rest : List ℕ) → name_fits w (inside a) ≡ true → read_name w (name_bytes w (inside a) ++ rest)
    ≡ took a (length (name_bytes w (inside a)))
name_again w a rest h =
    let u = length a / 2 in
    let p = both_true (eqb (length a % 2) 0) (ltb u (256 ^ w)) h in
    let e : 2 * u ≡ length a = omega (arith, eqb-true (length a % 2) 0 p.0) in
    let q : read_units u (a ++ rest) ≡ took a (length a) = rw e (bytes_again a rest) in
    then_again (read_low w) read_units (low_bytes w u) a rest u a (λ more. low_again w u more (ltb-true u (256 ^ w) p.1)) q

names_again : (x y z rest : List ℕ) → name_fits 1 (inside x) ≡ true → name_fits 1 (inside y) ≡ true → name_fits 2 (inside z) ≡ true →
    then_read (read_name 1) read_second ((name_bytes 1 (inside x) ++ (name_bytes 1 (inside y) ++ name_bytes 2 (inside z))) ++ rest)
    ≡ took (with_names x y z) (length (name_bytes 1 (inside x) ++ (name_bytes 1 (inside y) ++ name_bytes 2 (inside z))))
names_again x y z rest h i j =
    then_again (read_name 1) read_second (name_bytes 1 (inside x)) (name_bytes 1 (inside y) ++ name_bytes 2 (inside z)) rest x (with_names x y z)
    (λ more. name_again 1 x more h)
    (then_again (read_name 1) (read_third x) (name_bytes 1 (inside y)) (name_bytes 2 (inside z)) rest y (with_names x y z) (λ more. name_again 1 y more i)
    (ap (map_read (with_names x y)) (name_again 2 z rest j)))

abbrev parts : Part → Part → Part → Schema
parts x y z = record { database = x; owner = y; collection = z }

schema_again : (x y z : Part) (rest : List ℕ) → names_fit (Some (parts x y z)) ≡ true →
    read_column (column_bytes (column xml 0 0 0 None (Some (parts x y z))) ++ rest)
    ≡ took (column xml 0 0 0 None (Some (parts x y z))) (length (column_bytes (column xml 0 0 0 None (Some (parts x y z)))))
unfolding column_bytes read_byte
schema_again (inside x) (inside y) (inside z) rest h =
    let p = both_true (name_fits 1 (inside x)) (both (name_fits 1 (inside y)) (name_fits 2 (inside z))) h in
    let q = both_true (name_fits 1 (inside y)) (name_fits 2 (inside z)) p.1 in
    let b = name_bytes 1 (inside x) ++ (name_bytes 1 (inside y) ++ name_bytes 2 (inside z)) in
    typed_again xml (schema_marker ∷ b) rest (with_names x y z)
    (then_again read_byte read_schema (schema_marker ∷ []) b rest schema_marker (with_names x y z) (λ more. refl) (names_again x y z rest p.0 q.0 q.1))
schema_again outside y z rest h = no_truth h
schema_again (inside x) outside z rest h = no_truth (both_true (name_fits 1 (inside x)) false h).1
schema_again (inside x) (inside y) outside rest h =
    no_truth (both_true (name_fits 1 (inside y)) false (both_true (name_fits 1 (inside x)) (both (name_fits 1 (inside y)) false) h).1).1

xml_again : (m : Option Schema) (rest : List ℕ) → names_fit m ≡ true →
    read_column (column_bytes (column xml 0 0 0 None m) ++ rest) ≡ took (column xml 0 0 0 None m) (length (column_bytes (column xml 0 0 0 None m)))
unfolding column_bytes then_read read_byte
xml_again None rest h = typed_again xml (0 ∷ []) rest (plain xml 0) refl
xml_again (Some s) rest h = schema_again s.database s.owner s.collection rest h

column_again : (t : TypeId) (n p x : ℕ) (l : Option Collation) (m : Option Schema) (rest : List ℕ) → Kept t n p x l m → names_fit m ≡ true →
    is_described t ≡ true →
    read_column (column_bytes (column t n p x l m) ++ rest) ≡ took (column t n p x l m) (length (column_bytes (column t n p x l m)))
unfolding column_bytes
column_again (fixed_len f) n p x l m rest k i d =
    let z = zeros false p x refl k.digits in
    rw (eqb-true n 0 k.fits, z.0, z.1, no_collation false l refl k.collation, no_schema (fixed_len f) m (λ s. refl) k.schema)
    (bare_again (fixed_len f) 0 refl (λ s. refl) rest)
column_again (byte_len f) n p x l m rest k i d =
    let a = no_collation false l refl k.collation in
    let b = no_schema (byte_len f) m (λ s. refl) k.schema in
    rw (a, b) (byte_len_again f n p x rest (record { fits = k.fits; digits = k.digits; collation = refl; schema = refl }))
column_again (u_short_len f) n p x l m rest k i d =
    let b = no_schema (u_short_len f) m (λ s. refl) k.schema in
    rw b
    (wide_again (u_short_len f) 2 (short-form f) n p x l rest (record { fits = k.fits; digits = k.digits; collation = k.collation; schema = refl })
    refl (λ s. refl))
column_again (long_len f) n p x l m rest k i d =
    let b = no_schema (long_len f) m (λ s. refl) k.schema in
    rw b
    (wide_again (long_len f) 4 (long-form f) n p x l rest (record { fits = k.fits; digits = k.digits; collation = k.collation; schema = refl }) refl
    (λ s. refl))
column_again daten n p x l m rest k i d =
    let z = zeros false p x refl k.digits in
    rw (eqb-true n daten_length k.fits, z.0, z.1, no_collation false l refl k.collation, no_schema daten m (λ s. refl) k.schema)
    (bare_again daten daten_length refl (λ s. refl) rest)
column_again xml n p x l m rest k i d =
    let z = zeros false p x refl k.digits in
    rw (eqb-true n 0 k.fits, z.0, z.1, no_collation false l refl k.collation) (xml_again m rest i)
column_again udt n p x l m rest k i d = no_truth d
column_again ss_variant n p x l m rest k i d = no_truth d

pub again : (c : Column) (b rest : List ℕ) → write_column c ≡ gives b → read_column (b ++ rest) ≡ took c (length b)
again c b rest h =
    let w = written c b h in
    rw w.bytes at
    (column_again c.type c.length c.precision c.scale c.collation c.schema rest
    (kept c.type c.length c.precision c.scale c.collation c.schema w.keeps) w.fits w.described)
