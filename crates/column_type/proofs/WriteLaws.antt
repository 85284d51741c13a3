-- A descriptor's bytes, part by part: how long each part is, and what the order of the checks gives.
-- Assumes nothing.
use Rattle.std.specs.Prelude.{Some}
use Rattle.std.specs.Prelude.{Option}
use mathlib.Core.Path.{◌≡◌, refl, sym, ap, ◌∙◌}
use mathlib.Core.List.{List, [], ◌∷◌, ◌++◌}
use mathlib.Core.Bool.{Bool, true, false}
use Prim.Native.Nat.{ℕ, ◌+◌, ◌-◌, ◌*◌, ◌/◌, ◌^◌, ◌<◌, ◌≤◌}
use native.Mathlib.Omega.{arith}
use lib.ListN.{length, take, drop, length-append}
use lib.Seq.{sets, length-sets}
use lib.Dec.{ltb, lit≤}
use borrow.Author.Tests.{ltb-true, ltb-false}
use Rattle.lists.proofs.Split.{clash}
use Rattle.format.specs.Answer.{Answer, gives, refuses, rule, not_carried, wrote}
use Rattle.format.specs.Number.{low_bytes}
use Rattle.format.specs.Descriptor as D
use Rattle.format.specs.Descriptor.{type_byte, both, name_fits, names_fit, keeps_rule, is_described, length_width, has_digits, digits_bytes, collation_bytes}
use Rattle.format.specs.Descriptor.{name_bytes, schema_bytes, column_bytes, write_column}
use Rattle.format.proofs.Answer.{no_gives}
use Rattle.format.proofs.Number.{length-low}
use Rattle.format.proofs.DescriptorForm.{both_true, written}
use Rattle.lists.specs.Put.{put_at}
use Rattle.lists.proofs.Front.{sets_put, sets_then}
use Rattle.column_type.specs.declared.Name.{Name}
use Rattle.column_type.specs.Told as Told
use Rattle.column_type.specs.Told.{is_xml, name_told, schema_told, NameIn, schema_of}
use Rattle.column_type.proofs.ReadLaws.{name-inside}
use Rattle.column_type.proofs.RuleLaws.{length-name, name_leaves, name-lies}

-- ---- names that fit

fits_name : (s : List ℕ) (n : Name) (w : ℕ) → name_fits w (name_told s n) ≡ true → NameIn s n × (n.units < 256 ^ w)
fits_name s n w h = go (ltb (length s) (n.start + 2 * n.units)) refl
  where
    go : (b : Bool) → ltb (length s) (n.start + 2 * n.units) ≡ b → NameIn s n × (n.units < 256 ^ w)
    go true t = let z : true ≡ false = sym h ∙ sym (name_leaves s n w (ltb-true _ _ t)) in clash cc
    go false t = let i : NameIn s n = ltb-false (length s) (n.start + 2 * n.units) t in (i, ltb-true n.units (256 ^ w) (name-lies s n w i ∙ h))

-- three names that fit: each lies in the buffer, and its count fits its field
pub record Fitting (s : List ℕ) (a b c : Name) : Type 0 where
  pub database : NameIn s a
  pub owner : NameIn s b
  pub collection : NameIn s c
  pub database_units : a.units < 256
  pub owner_units : b.units < 256
  pub collection_units : c.units < 65536

pub fitting : (s : List ℕ) (a b c : Name) → names_fit (schema_told s (Some (schema_of a b c))) ≡ true → Fitting s a b c
fitting s a b c h =
    let p = both_true (name_fits 1 (name_told s a)) (both (name_fits 1 (name_told s b)) (name_fits 2 (name_told s c))) h in
    let q = both_true (name_fits 1 (name_told s b)) (name_fits 2 (name_told s c)) p.1 in
    let x = fits_name s a 1 p.0 in
    let y = fits_name s b 1 q.0 in
    let z = fits_name s c 2 q.1 in
    record { database = x.0; owner = y.0; collection = z.0; database_units = x.1; owner_units = y.1; collection_units = z.1 }

-- ---- how long the parts are

-- a name's bytes are its count and its units
pub name_is : (s : List ℕ) (n : Name) (w : ℕ) → NameIn s n → name_bytes w (name_told s n) ≡ low_bytes w n.units ++ Told.name_bytes s n
name_is s n w h =
    let l = length-name s n h in
    let f : length (Told.name_bytes s n) / 2 ≡ n.units = omega arith in
    ap (name_bytes w) (name-inside s n h) ∙ ap (λ (k : ℕ). low_bytes w k ++ Told.name_bytes s n) f

pub length-named : (s : List ℕ) (n : Name) (w : ℕ) → NameIn s n → length (name_bytes w (name_told s n)) ≡ w + 2 * n.units
length-named s n w h = ap length (name_is s n w h) ∙ rw (length-append, length-low w n.units, length-name s n h)

pub length_names : (s : List ℕ) (a b c : Name) → NameIn s a → NameIn s b → NameIn s c →
    length (schema_bytes D.xml (schema_told s (Some (schema_of a b c)))) ≡ 5 + 2 * a.units + 2 * b.units + 2 * c.units
length_names s a b c h i j =
    let x = length-named s a 1 h in
    let y = length-named s b 1 i in
    let z = length-named s c 2 j in
    simp (length-append, x, y, z) (omega arith)

pub not_xml : (t : D.TypeId) (n : Option D.Schema) → is_xml t ≡ false → schema_bytes t n ≡ []
not_xml (D.fixed_len t) n h = refl
not_xml (D.byte_len t) n h = refl
not_xml (D.u_short_len t) n h = refl
not_xml (D.long_len t) n h = refl
not_xml D.daten n h = refl
not_xml D.xml n h = clash cc
not_xml D.udt n h = refl
not_xml D.ss_variant n h = refl

pub is_xml_lem : (t : D.TypeId) → is_xml t ≡ true → t ≡ D.xml
is_xml_lem (D.fixed_len t) h = clash cc
is_xml_lem (D.byte_len t) h = clash cc
is_xml_lem (D.u_short_len t) h = clash cc
is_xml_lem (D.long_len t) h = clash cc
is_xml_lem D.daten h = clash cc
is_xml_lem D.xml h = refl
is_xml_lem D.udt h = clash cc
is_xml_lem D.ss_variant h = clash cc

pub length_width_lem : (t : D.TypeId) → length_width t ≤ 4
length_width_lem (D.fixed_len t) = lit≤ tt
length_width_lem (D.byte_len t) = lit≤ tt
length_width_lem (D.u_short_len t) = lit≤ tt
length_width_lem (D.long_len t) = lit≤ tt
length_width_lem D.daten = lit≤ tt
length_width_lem D.xml = lit≤ tt
length_width_lem D.udt = lit≤ tt
length_width_lem D.ss_variant = lit≤ tt

pub length-column : (k : D.Column) →
    length (column_bytes k)
    ≡ 1 + length_width k.type + length (digits_bytes (has_digits k.type) k.precision k.scale) + length (collation_bytes k.collation) +
    length (schema_bytes k.type k.schema)
unfolding column_bytes
length-column k =
    let l = length-low (length_width k.type) k.length in
    simp (length-append, l) (omega arith)

-- ---- the order of the checks

module _ (k : D.Column) where
  pub breaks_rule : keeps_rule k ≡ false → write_column k ≡ refuses rule
  unfolding write_column
  breaks_rule h = rw h

  pub breaks_names : keeps_rule k ≡ true → names_fit k.schema ≡ false → write_column k ≡ refuses rule
  unfolding write_column
  breaks_names h i = rw (h, i)

  pub not_described : keeps_rule k ≡ true → names_fit k.schema ≡ true → is_described k.type ≡ false → write_column k ≡ refuses not_carried
  unfolding write_column
  not_described h i j = rw (h, i, j)

-- what a size says: the rule was kept, and it is the size of the bytes
pub sized : (k : D.Column) (n : ℕ) → gives n ≡ wrote (write_column k) →
    (write_column k ≡ gives (column_bytes k)) × (names_fit k.schema ≡ true) × (length (column_bytes k) ≡ n)
unfolding wrote
sized k n h = go (write_column k) refl h
  where
    go : (a : Answer (List ℕ)) → write_column k ≡ a → gives n ≡ wrote a →
        (write_column k ≡ gives (column_bytes k)) × (names_fit k.schema ≡ true) × (length (column_bytes k) ≡ n)
    go (gives b) e q = let w = written k b e in (e ∙ ap gives (sym w.bytes), w.fits, ap length w.bytes ∙ cc)
    go (refuses r) e q = no_gives r n (sym q)

-- ---- the stores

-- a name behind its count
pub name_stored : (out s : List ℕ) (at w : ℕ) (n : Name) → NameIn s n → at + (w + 2 * n.units) ≤ length out →
    put_at (sets out at (low_bytes w n.units)) (at + w) (take (n.start + 2 * n.units - n.start) (drop n.start s)) ≡ sets out at
    (name_bytes w (name_told s n))
name_stored out s at w n h l =
    let d : n.start + 2 * n.units - n.start ≡ 2 * n.units = omega arith in
    let low = low_bytes w n.units in
    let c = Told.name_bytes s n in
    let k = length-name s n h in
    let e : at + w ≡ at + length low = ap (λ (x : ℕ). at + x) (sym (length-low w n.units)) in
    let r : at + w + length c ≤ length (sets out at low) = rw (length-sets out at low) (omega arith) in
    rw d (sym (sets_put (sets out at low) (at + w) c r) ∙ (sets_then out at (at + w) low c e ∙ ap (sets out at) (sym (name_is s n w h))))

-- the whole descriptor
pub column_stored : (out : List ℕ) (k : D.Column) (w second third : ℕ) → w ≡ length_width k.type →
    second ≡ 1 + w + length (digits_bytes (has_digits k.type) k.precision k.scale) → third ≡ second + length (collation_bytes k.collation) →
    sets
    (sets
    (sets (sets (sets out 0 (type_byte k.type ∷ [])) 1 (low_bytes w k.length)) (1 + w) (digits_bytes (has_digits k.type) k.precision k.scale))
    second
    (collation_bytes k.collation))
    third
    (schema_bytes k.type k.schema)
    ≡ sets out 0 (column_bytes k)
unfolding column_bytes
column_stored out k w second third p q r =
    let b = type_byte k.type in
    let low = low_bytes w k.length in
    let dig = digits_bytes (has_digits k.type) k.precision k.scale in
    let col = collation_bytes k.collation in
    let sch = schema_bytes k.type k.schema in
    let one = sets out 0 (b ∷ []) in
    let two = sets one 1 low in
    let l : 1 + w ≡ 1 + length low = ap (λ (x : ℕ). 1 + x) (sym (length-low w k.length)) in
    sets_then (sets two (1 + w) dig) second third col sch r
    ∙ (sets_then two (1 + w) second dig (col ++ sch) q
    ∙ (sets_then one 1 (1 + w) low (dig ++ (col ++ sch)) l
    ∙ (sets_then out 0 1 (b ∷ []) (low ++ (dig ++ (col ++ sch))) refl
    ∙ ap (λ (x : ℕ). sets out 0 (b ∷ (low_bytes x k.length ++ (dig ++ (col ++ sch))))) p)))
