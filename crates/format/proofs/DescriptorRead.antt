-- What follows a descriptor's type byte, read of bytes, is written again as the bytes that it was read from. Its parts stand one behind another: what each
-- part's
-- reader cut off the front is what its writer gives (the laws named cut).
-- Assumes nothing.
use Rattle.std.specs.Prelude.{None, Option, Some}
use mathlib.Core.Path.{◌≡◌, refl, sym, ap, ◌∙◌}
use mathlib.Core.List.{List, [], ◌∷◌, ◌++◌}
use mathlib.Core.Bool.{Bool, true, false, not}
use Prim.Native.Nat.{ℕ, ◌*◌, ◌/◌, ◌%◌, ◌^◌, ◌<◌}
use native.Mathlib.Omega.{arith}
use lib.ListN.{length, take, drop}
use lib.Seq.{take-add, length-take-le}
use lib.Dec.{ltb, eqb}
use borrow.Author.Tests.{lt-ltb, eq-eqb, ltb-false, eqb-true}
use Rattle.lists.proofs.Split.{split}
use Rattle.format.specs.Answer.{gives, Read, took, missing, then_read, inside}
use Rattle.format.specs.Number.{low_nat, low_bytes, read_byte, read_low}
use Rattle.format.specs.Descriptor.{ByteLen, TypeId, fixed_len, byte_len, u_short_len, long_len, daten, xml, udt, ss_variant, byte_len_byte, type_byte}
use Rattle.format.specs.Descriptor.{Collation, Column, plain, has_digits, has_collation, daten_length, with_sort, read_sort, read_collation}
use Rattle.format.specs.Descriptor.{with_scale, read_scale, read_digits, read_units, read_name, with_names, read_third, read_second, schema_marker}
use Rattle.format.specs.Descriptor.{read_schema, read_fields, both, digits_fit, collation_fits, keeps_rule, name_fits, digits_bytes, name_bytes}
use Rattle.format.specs.Descriptor.{column_bytes, write_column}
use Rattle.format.proofs.Answer.{no_truth}
use Rattle.format.proofs.Number.{Bytes, low_forth, low-lt}
use Rattle.format.proofs.Place.{no_took, past, map-took, then_took}
use Rattle.format.proofs.Plain.{bytes_drop, bytes_take, bytes-took}
use Rattle.format.proofs.DescriptorForm.{same_took, writes, Form, byte-form, short-form, long-form, form-written}

-- ---- what a reader cut off the front

-- one reader behind another
pub then_cut : {A B : Type 0} (reader : List ℕ → Read A) (next : A → List ℕ → Read B) (s : List ℕ) (b : B) (m : ℕ) → then_read reader next s ≡ took b m →
    (a : A) × (n : ℕ) × (k : ℕ) × (reader s ≡ took a n) × (next a (drop n s) ≡ took b k) × (take m s ≡ take n s ++ take k (drop n s))
then_cut reader next s b m h =
    let t = then_took reader next s b m h in
    (t.0, t.1, t.2, t.3, t.4, ap (λ (i : ℕ). take i s) (sym t.5) ∙ take-add t.1 t.2 s)

pub byte_cut : (s : List ℕ) (v n : ℕ) → Bytes s → read_byte s ≡ took v n → (take n s ≡ v ∷ []) × (v < 256)
unfolding read_byte
byte_cut [] v n b h = no_took missing v n h
byte_cut (x ∷ s) v n b h =
    let p = same_took x v 1 n h in
    (rw (p.0, p.1), rw p.0 (b 0))

low_cut : (w : ℕ) (s : List ℕ) (v n : ℕ) → Bytes s → read_low w s ≡ took v n → (take n s ≡ low_bytes w v) × (v < 256 ^ w)
unfolding read_low
low_cut w s v n b h =
    let p = past (ltb (length s) w) missing (took (low_nat (take w s)) w) v n h in
    let q = same_took (low_nat (take w s)) v w n p.1 in
    let l = length-take-le w s (ltb-false (length s) w p.0) in
    let f = rw l at (low_forth (take w s) (bytes_take w s b)) in
    let g = rw l at (low-lt (take w s) (bytes_take w s b)) in
    (rw (q.0, q.1) (sym f), rw q.0 g)

name_cut : (w : ℕ) (s a : List ℕ) (n : ℕ) → Bytes s → read_name w s ≡ took a n → (take n s ≡ name_bytes w (inside a)) × (name_fits w (inside a) ≡ true)
name_cut w s a n b h =
    let t = then_cut (read_low w) read_units s a n h in
    let u = t.0 in
    let p = low_cut w s u t.1 b t.3 in
    let q = bytes-took (2 * u) (drop t.1 s) a t.2 t.4 in
    let l : length a ≡ 2 * u = q.2 in
    let e : length a / 2 ≡ u = omega arith in
    let z : eqb (length a % 2) 0 ≡ true = eq-eqb (length a % 2) 0 (omega arith) in
    let f : take t.2 (drop t.1 s) ≡ a = ap (λ (i : ℕ). take i (drop t.1 s)) (sym q.1) ∙ q.0 in
    (rw (t.5, p.0, f, e), rw (z, e, lt-ltb u (256 ^ w) p.1))

-- ---- what was read is written again

module _ (f : ByteLen) (n : ℕ) (s : List ℕ) (c : Column) (k : ℕ) (h : n < 256) (b : Bytes s) where
  no_digits_cut : has_digits (byte_len f) ≡ false → took (plain (byte_len f) n) 0 ≡ took c k → write_column c ≡ gives (byte_len_byte f ∷ n ∷ take k s)
  no_digits_cut e q =
      let r = same_took (plain (byte_len f) n) c 0 k q in
      let m : n % 256 ≡ n = omega arith in
      let d : digits_fit (has_digits (byte_len f)) 0 0 ≡ true = rw e in
      let z : byte_len_byte f ∷ (low_bytes 1 n ++ (digits_bytes (has_digits (byte_len f)) 0 0 ++ [])) ≡ byte_len_byte f ∷ n ∷ [] = rw (e, m) in
      rw (r.0, r.1) (form-written (byte_len f) 1 (byte-form f) n 0 0 None h d refl ∙ ap gives z)

  two_digits_cut : has_digits (byte_len f) ≡ true → then_read read_byte (read_scale (byte_len f) n) s ≡ took c k →
      write_column c ≡ gives (byte_len_byte f ∷ n ∷ take k s)
  two_digits_cut e q =
      let t = then_cut read_byte (read_scale (byte_len f) n) s c k q in
      let p = t.0 in
      let u = byte_cut s p t.1 b t.3 in
      let v = map-took (with_scale (byte_len f) n p) (read_byte (drop t.1 s)) c t.2 t.4 in
      let x = v.0 in
      let y = byte_cut (drop t.1 s) x t.2 (bytes_drop t.1 s b) v.1 in
      let m : n % 256 ≡ n = omega arith in
      let d : digits_fit (has_digits (byte_len f)) p x ≡ true = rw (e, lt-ltb p 256 u.1, lt-ltb x 256 y.1) in
      let r : c ≡ with_scale (byte_len f) n p x = sym v.2 in
      let i : take k s ≡ p ∷ x ∷ [] = rw (t.5, u.0, y.0) in
      let z : byte_len_byte f ∷ (low_bytes 1 n ++ (digits_bytes (has_digits (byte_len f)) p x ++ [])) ≡ byte_len_byte f ∷ n ∷ p ∷ x ∷ [] = rw (e, m) in
      rw (r, i) (form-written (byte_len f) 1 (byte-form f) n p x None h d refl ∙ ap gives z)

  digits_cut : read_digits (byte_len f) n s ≡ took c k → write_column c ≡ gives (byte_len_byte f ∷ n ∷ take k s)
  digits_cut = split (has_digits (byte_len f)) two_digits_cut no_digits_cut

byte_len_cut : (f : ByteLen) (s : List ℕ) (c : Column) (k : ℕ) → Bytes s → read_fields (byte_len f) s ≡ took c k →
    write_column c ≡ gives (byte_len_byte f ∷ take k s)
byte_len_cut f s c k b h =
    let t = then_cut read_byte (read_digits (byte_len f)) s c k h in
    let u = byte_cut s t.0 t.1 b t.3 in
    let i : take k s ≡ t.0 ∷ take t.2 (drop t.1 s) = rw (t.5, u.0) in
    rw i (digits_cut f t.0 (drop t.1 s) c t.2 u.1 (bytes_drop t.1 s b) t.4)

module _ (t : TypeId) (w : ℕ) (f : Form t w) (none-digits : has_digits t ≡ false) (n : ℕ) (s : List ℕ) (c : Column) (k : ℕ) (h : n < 256 ^ w) (b : Bytes s)
  where
    no_collation_cut : has_collation t ≡ false → took (plain t n) 0 ≡ took c k → write_column c ≡ gives (type_byte t ∷ (low_bytes w n ++ take k s))
    no_collation_cut e q =
        let r = same_took (plain t n) c 0 k q in
        let d : digits_fit (has_digits t) 0 0 ≡ true = rw none-digits in
        let l : collation_fits (has_collation t) None ≡ true = rw e in
        let z : type_byte t ∷ (low_bytes w n ++ (digits_bytes (has_digits t) 0 0 ++ [])) ≡ type_byte t ∷ (low_bytes w n ++ []) = rw none-digits in
        rw (r.0, r.1) (form-written t w f n 0 0 None h d l ∙ ap gives z)

    collation_cut : has_collation t ≡ true → then_read (read_low 4) (read_sort t n) s ≡ took c k → write_column c
        ≡ gives (type_byte t ∷ (low_bytes w n ++ take k s))
    collation_cut e q =
        let g = then_cut (read_low 4) (read_sort t n) s c k q in
        let info = g.0 in
        let u = low_cut 4 s info g.1 b g.3 in
        let v = map-took (with_sort t n info) (read_byte (drop g.1 s)) c g.2 g.4 in
        let sort = v.0 in
        let y = byte_cut (drop g.1 s) sort g.2 (bytes_drop g.1 s b) v.1 in
        let d : digits_fit (has_digits t) 0 0 ≡ true = rw none-digits in
        let o : Option Collation = Some (record { info = info; sort = sort }) in
        let l : collation_fits (has_collation t) (Some (record {
          info =
              info;
          sort = sort;
        })) ≡ true = rw (e, lt-ltb info (256 ^ 4) u.1, lt-ltb sort 256 y.1) in
        let r : c ≡ with_sort t n info sort = sym v.2 in
        let i : take k s ≡ low_bytes 4 info ++ (sort ∷ []) = rw (g.5, u.0, y.0) in
        let z :
        type_byte t ∷ (low_bytes w n ++ (digits_bytes (has_digits t) 0 0 ++ (low_bytes 4 info ++ (sort ∷ []))))
        ≡ type_byte t ∷ (low_bytes w n ++ (low_bytes 4 info ++ (sort ∷ []))) =
        rw none-digits in
        rw (r, i) (form-written t w f n 0 0 o h d l ∙ ap gives z)

    behind-length_cut : read_collation t n s ≡ took c k → write_column c ≡ gives (type_byte t ∷ (low_bytes w n ++ take k s))
    behind-length_cut = split (has_collation t) collation_cut no_collation_cut

wide_cut : (t : TypeId) (w : ℕ) → Form t w → has_digits t ≡ false → (s : List ℕ) (c : Column) (k : ℕ) → Bytes s →
    then_read (read_low w) (read_collation t) s ≡ took c k → write_column c ≡ gives (type_byte t ∷ take k s)
wide_cut t w f e s c k b h =
    let a = then_cut (read_low w) (read_collation t) s c k h in
    let u = low_cut w s a.0 a.1 b a.3 in
    let i : take k s ≡ low_bytes w a.0 ++ take a.2 (drop a.1 s) = rw (a.5, u.0) in
    rw i (behind-length_cut t w f e a.0 (drop a.1 s) c a.2 u.1 (bytes_drop a.1 s b) a.4)

-- the second byte of an Xml descriptor is neither 0 nor 1
abbrev pub odd : List ℕ → Bool
odd [] = false
odd (m ∷ s) = both (not (eqb m 0)) (not (eqb m schema_marker))

pub byte-front : (s : List ℕ) (v n : ℕ) → read_byte s ≡ took v n → s ≡ v ∷ drop n s
unfolding read_byte
byte-front [] v n h = no_took missing v n h
byte-front (x ∷ s) v n h = let p = same_took x v 1 n h in rw (p.0, p.1)

zero-marker : (m : ℕ) (s : List ℕ) → eqb m schema_marker ≡ false → odd (m ∷ s) ≡ false → m ≡ 0
zero-marker m s e h = go (eqb m 0) refl (rw e at h)
  where
    go : (z : Bool) → eqb m 0 ≡ z → both (not (eqb m 0)) true ≡ false → m ≡ 0
    go true q i = eqb-true m 0 q
    go false q i = no_truth (sym (rw q at i))

names_written : (x y z : List ℕ) → name_fits 1 (inside x) ≡ true → name_fits 1 (inside y) ≡ true → name_fits 2 (inside z) ≡ true →
    write_column (with_names x y z) ≡ gives (type_byte xml ∷ schema_marker ∷ (name_bytes 1 (inside x) ++ (name_bytes 1 (inside y) ++ name_bytes 2 (inside z))))
unfolding keeps_rule column_bytes
names_written x y z h i j = writes (with_names x y z) refl (rw (h, i, j)) refl

pub bare-written : write_column (plain xml 0) ≡ gives (type_byte xml ∷ 0 ∷ [])
unfolding write_column keeps_rule column_bytes
bare-written = refl

names_cut : (s : List ℕ) (c : Column) (k : ℕ) → Bytes s → then_read (read_name 1) read_second s ≡ took c k →
    write_column c ≡ gives (type_byte xml ∷ schema_marker ∷ take k s)
names_cut s c k b h =
    let g = then_cut (read_name 1) read_second s c k h in
    let x = g.0 in
    let i = name_cut 1 s x g.1 b g.3 in
    let r = drop g.1 s in
    let br = bytes_drop g.1 s b in
    let j = then_cut (read_name 1) (read_third x) r c g.2 g.4 in
    let y = j.0 in
    let o = name_cut 1 r y j.1 br j.3 in
    let v = map-took (with_names x y) (read_name 2 (drop j.1 r)) c j.2 j.4 in
    let z = v.0 in
    let u = name_cut 2 (drop j.1 r) z j.2 (bytes_drop j.1 r br) v.1 in
    let e : c ≡ with_names x y z = sym v.2 in
    let l : take k s ≡ name_bytes 1 (inside x) ++ (name_bytes 1 (inside y) ++ name_bytes 2 (inside z)) = rw (g.5, i.0, j.5, o.0, u.0) in
    rw (e, l) (names_written x y z i.1 o.1 u.1)

bare_cut : (m : ℕ) (s : List ℕ) (c : Column) (k : ℕ) → eqb m schema_marker ≡ false → odd (m ∷ s) ≡ false → took (plain xml 0) 0 ≡ took c k →
    write_column c ≡ gives (type_byte xml ∷ m ∷ take k s)
bare_cut m s c k e o q = let p = same_took (plain xml 0) c 0 k q in rw (p.0, p.1, zero-marker m s e o) bare-written

xml_cut : (s : List ℕ) (c : Column) (k : ℕ) → Bytes s → odd s ≡ false → read_fields xml s ≡ took c k → write_column c ≡ gives (type_byte xml ∷ take k s)
xml_cut s c k b o h =
    let a = then_cut read_byte read_schema s c k h in
    let m = a.0 in
    let u = byte_cut s m a.1 b a.3 in
    let r = drop a.1 s in
    let i : take k s ≡ m ∷ take a.2 r = rw (a.5, u.0) in
    let f = byte-front s m a.1 a.3 in
    rw i
    (split (eqb m schema_marker)
    (λ e q. let d : m ≡ schema_marker = eqb-true m schema_marker e in rw d (names_cut r c a.2 (bytes_drop a.1 s b) q))
    (λ e q. bare_cut m r c a.2 e (rw f at o) q)
    a.4)

-- what follows the type byte
pub fields_cut : (t : TypeId) (s : List ℕ) (c : Column) (k : ℕ) → Bytes s → (t ≡ xml → odd s ≡ false) → read_fields t s ≡ took c k →
    write_column c ≡ gives (type_byte t ∷ take k s)
unfolding write_column keeps_rule column_bytes
fields_cut (fixed_len f) s c k b o h = let r = same_took (plain (fixed_len f) 0) c 0 k h in rw (r.0, r.1)
fields_cut (byte_len f) s c k b o h = byte_len_cut f s c k b h
fields_cut (u_short_len f) s c k b o h = wide_cut (u_short_len f) 2 (short-form f) refl s c k b h
fields_cut (long_len f) s c k b o h = wide_cut (long_len f) 4 (long-form f) refl s c k b h
fields_cut daten s c k b o h = let r = same_took (plain daten daten_length) c 0 k h in rw (r.0, r.1)
fields_cut xml s c k b o h = xml_cut s c k b (o refl) h
fields_cut udt s c k b o h = no_took _ c k h
fields_cut ss_variant s c k b o h = no_took _ c k h
