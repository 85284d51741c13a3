-- No two outcomes satisfy the contract of `column_read::read_column`: telling has an inverse, but for a name, which is told by its bytes alone, and the
-- contract's second clause fixes where it stands.
-- Assumes nothing.
use Rattle.std.specs.Prelude.{Err, Ok, Result, None, Option, Some}
use mathlib.Core.Path.{◌≡◌, refl, sym, ap, ◌∙◌}
use mathlib.Core.List.{List}
use Prim.Native.Nat.{ℕ, ◌+◌, ◌*◌}
use native.Mathlib.Omega.{arith}
use lib.ListN.{length}
use Rattle.lists.proofs.Split.{clash}
use Rattle.format.specs.Answer.{read_at, inside}
use Rattle.format.specs.Descriptor as D
use Rattle.format.specs.Descriptor.{read_column}
use Rattle.format.proofs.Decided.{Undoes, decided}
use Rattle.wire.specs.declared.Cursor.{Cursor}
use Rattle.wire.specs.Told.{refusal_told}
use Rattle.wire.proofs.Decided.{refusal_back, refusal_undoes}
use Rattle.column_type.specs.declared.FixedLen.{FixedLen}
use Rattle.column_type.specs.declared.FixedLen.TheVariants as F
use Rattle.column_type.specs.declared.ByteLen.{ByteLen}
use Rattle.column_type.specs.declared.ByteLen.TheVariants as B
use Rattle.column_type.specs.declared.UShortLen.{UShortLen}
use Rattle.column_type.specs.declared.UShortLen.TheVariants as U
use Rattle.column_type.specs.declared.LongLen.{LongLen}
use Rattle.column_type.specs.declared.LongLen.TheVariants as L
use Rattle.column_type.specs.declared.TypeId.{TypeId}
use Rattle.column_type.specs.declared.TypeId.TheVariants as T
use Rattle.column_type.specs.declared.Collation.{Collation}
use Rattle.column_type.specs.declared.Name.{Name}
use Rattle.column_type.specs.declared.Schema.{Schema}
use Rattle.column_type.specs.declared.Column.{Column}
use Rattle.column_type.specs.Back.{fixed_back, byte_len_back, u_short_len_back, long_len_back, type_back}
use Rattle.column_type.specs.Told.{fixed_told, byte_len_told, u_short_len_told, long_len_told, type_told, collation_told, name_told, schema_told}
use Rattle.column_type.specs.Told.{column_told, column_read_told, name_bytes, NameIn, SchemaFrom, NamesFrom, schema_of}
use Rattle.column_type.proofs.ReadLaws.{name-inside}
use Rattle.column_type.proofs.RuleLaws.{length-name}
use Rattle.wire.specs.declared.Refusal.{Refusal}

-- ---- the type byte

fixed_undoes : Undoes fixed_told fixed_back
fixed_undoes F.Null = refl
fixed_undoes F.Int1 = refl
fixed_undoes F.Bit = refl
fixed_undoes F.Int2 = refl
fixed_undoes F.Int4 = refl
fixed_undoes F.Datetime4 = refl
fixed_undoes F.Float4 = refl
fixed_undoes F.Money = refl
fixed_undoes F.Datetime = refl
fixed_undoes F.Float8 = refl
fixed_undoes F.Money4 = refl
fixed_undoes F.Int8 = refl

byte_len_undoes : Undoes byte_len_told byte_len_back
byte_len_undoes B.Guid = refl
byte_len_undoes B.Intn = refl
byte_len_undoes B.Bitn = refl
byte_len_undoes B.Decimaln = refl
byte_len_undoes B.Numericn = refl
byte_len_undoes B.Floatn = refl
byte_len_undoes B.Moneyn = refl
byte_len_undoes B.Datetimen = refl
byte_len_undoes B.Timen = refl
byte_len_undoes B.Datetime2 = refl
byte_len_undoes B.DatetimeOffsetn = refl

u_short_len_undoes : Undoes u_short_len_told u_short_len_back
u_short_len_undoes U.BigVarBin = refl
u_short_len_undoes U.BigVarChar = refl
u_short_len_undoes U.BigBinary = refl
u_short_len_undoes U.BigChar = refl
u_short_len_undoes U.NVarchar = refl
u_short_len_undoes U.NChar = refl

long_len_undoes : Undoes long_len_told long_len_back
long_len_undoes L.Image = refl
long_len_undoes L.Text = refl
long_len_undoes L.NText = refl

pub type_undoes : Undoes type_told type_back
type_undoes (T.Fixed t) = ap T.Fixed (fixed_undoes t)
type_undoes (T.Byte t) = ap T.Byte (byte_len_undoes t)
type_undoes (T.UShort t) = ap T.UShort (u_short_len_undoes t)
type_undoes (T.Long t) = ap T.Long (long_len_undoes t)
type_undoes T.Daten = refl
type_undoes T.Xml = refl
type_undoes T.Udt = refl
type_undoes T.SsVariant = refl

-- ---- reading

abbrev collation_back : Option D.Collation → Option Collation
collation_back None = None
collation_back (Some k) = Some (record { info = k.info; sort = k.sort })

collation_undoes : Undoes collation_told collation_back
collation_undoes None = refl
collation_undoes (Some c) = refl

-- records are equal by their fields
abbrev name : ℕ → ℕ → Name
name start units = record { start = start; units = units }

named : (x y u v : ℕ) → x ≡ y → u ≡ v → name x u ≡ name y v
named x y u v p q = rw (p, q)

abbrev column : TypeId → ℕ → ℕ → ℕ → Option Collation → Option Schema → Column
column t n p x l m = record { ty = t; length = n; precision = p; scale = x; collation = l; schema = m }

made : (t t' : TypeId) (n n' p p' x x' : ℕ) (l l' : Option Collation) (m m' : Option Schema) → t ≡ t' → n ≡ n' → p ≡ p' → x ≡ x' → l ≡ l' → m ≡ m' →
    column t n p x l m ≡ column t' n' p' x' l' m'
made t t' n n' p p' x x' l l' m m' a b c d e f = rw (a, b, c, d, e, f)

abbrev cursor : ℕ → Cursor
cursor n = record { at = n }

same_cursor : (c d : Cursor) → c.at ≡ d.at → c ≡ d
same_cursor c d e = ap cursor e

schemas : (a d b e c f : Name) → a ≡ d → b ≡ e → c ≡ f → Some (schema_of a b c) ≡ Some (schema_of d e f)
schemas a d b e c f p q r = rw (p, q, r)

one_schema : {x y : D.Schema} → Some x ≡ Some y → x ≡ y
one_schema e = cc

module _ (s : List ℕ) where
  -- two names that start at one place and have the same bytes
  same_name : (a b : Name) → a.start ≡ b.start → NameIn s a → NameIn s b → name_told s a ≡ name_told s b → a ≡ b
  same_name a b p h i e =
      let f : inside (name_bytes s a) ≡ inside (name_bytes s b) = sym (name-inside s a h) ∙ (e ∙ name-inside s b i) in
      let g : name_bytes s a ≡ name_bytes s b = cc in
      let u : a.units ≡ b.units = omega (arith, length-name s a h, length-name s b i, ap length g) in
      named a.start b.start a.units b.units p u

  same_schema : (place : ℕ) (x y : Option Schema) → SchemaFrom s place x → SchemaFrom s place y → schema_told s x ≡ schema_told s y → x ≡ y
  same_schema place None None h i e = refl
  same_schema place None (Some n) h i e = clash cc
  same_schema place (Some n) None h i e = clash cc
  same_schema place (Some m) (Some n) h i e =
      let w = one_schema e in
      let x : name_told s m.database ≡ name_told s n.database = ap (λ (k : D.Schema). k.database) w in
      let y : name_told s m.owner ≡ name_told s n.owner = ap (λ (k : D.Schema). k.owner) w in
      let z : name_told s m.collection ≡ name_told s n.collection = ap (λ (k : D.Schema). k.collection) w in
      let p = same_name m.database n.database (h.0 ∙ sym i.0) (omega (arith, h.1, h.2, h.3)) (omega (arith, i.1, i.2, i.3)) x in
      let q =
      same_name m.owner n.owner (h.1 ∙ (ap (λ (n : Name). n.start + 2 * n.units + 1) p ∙ sym i.1)) (omega (arith, h.2, h.3))
      (omega (arith, i.2, i.3)) y in
      let r = same_name m.collection n.collection (h.2 ∙ (ap (λ (n : Name). n.start + 2 * n.units + 2) q ∙ sym i.2)) h.3 i.3 z in
      schemas m.database n.database m.owner n.owner m.collection n.collection p q r

  same_column : (place : ℕ) (c d : Column) → SchemaFrom s place c.schema → SchemaFrom s place d.schema → column_told s c ≡ column_told s d → c ≡ d
  same_column place c d h i e =
      let t = decided type_told type_back type_undoes c.ty d.ty (type_told d.ty) (ap (λ (k : D.Column). k.type) e) refl in
      let n : c.length ≡ d.length = ap (λ (k : D.Column). k.length) e in
      let p : c.precision ≡ d.precision = ap (λ (k : D.Column). k.precision) e in
      let x : c.scale ≡ d.scale = ap (λ (k : D.Column). k.scale) e in
      let l =
      decided collation_told collation_back collation_undoes c.collation d.collation (collation_told d.collation)
      (ap (λ (k : D.Column). k.collation) e) refl in
      let m = same_schema place c.schema d.schema h i (ap (λ (k : D.Column). k.schema) e) in
      made c.ty d.ty c.length d.length c.precision d.precision c.scale d.scale c.collation d.collation c.schema
      d.schema t n p x l m

-- what the contract of `column_read::read_column` says of an answer
pub record Reads (s : List ℕ) (at : ℕ) (r : Result (Column × Cursor) Refusal) : Type 0 where
  pub told : column_read_told s r ≡ read_at read_column s at
  pub names : NamesFrom s (at + 3) r

same_read : (s : List ℕ) (place : ℕ) (x y : Result (Column × Cursor) Refusal) → NamesFrom s place x → NamesFrom s place y →
    column_read_told s x ≡ column_read_told s y → x ≡ y
same_read s place (Ok (c, n)) (Ok (d, m)) h i e =
    let p : column_told s c ≡ column_told s d = cc in
    let q : n.at ≡ m.at = cc in
    rw (same_column s place c d h i p, same_cursor n m q)
same_read s place (Ok (c, n)) (Err f) h i e = clash cc
same_read s place (Err f) (Ok (c, n)) h i e = clash cc
same_read s place (Err f) (Err g) h i e =
    let p : refusal_told f ≡ refusal_told g = cc in
    ap Err (decided refusal_told refusal_back refusal_undoes f g (refusal_told g) p refl)

-- `column_read::read_column`
pub read_column_decided : (s : List ℕ) (at : ℕ) (x y : Result (Column × Cursor) Refusal) → Reads s at x → Reads s at y → x ≡ y
read_column_decided s at x y p q = same_read s (at + 3) x y p.names q.names (p.told ∙ sym q.told)
