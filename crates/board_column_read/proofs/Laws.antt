-- A column that was read: the bytes made of it are its record, and the spans of its names are where they stand in the input.
-- Assumes nothing.
use Rattle.std.specs.Prelude.{Option, Some}
use Rattle.std.specs.Prelude.{None}
use mathlib.Core.Path.{◌≡◌, refl, sym, ap, ◌∙◌}
use mathlib.Core.List.{List}
use Prim.Native.Nat.{ℕ, ◌+◌, ◌/◌}
use native.Mathlib.Omega.{arith}
use lib.ListN.{length}
use Rattle.format.specs.Answer.{Refusal, gives, refuses, Read, took, stops, map_read}
use Rattle.format.specs.Descriptor as D
use Rattle.column_type.specs.declared.Name.{Name}
use Rattle.column_type.specs.declared.Collation.{Collation}
use Rattle.column_type.specs.declared.Schema.{Schema}
use Rattle.column_type.specs.declared.Column.{Column}
use Rattle.column_type.specs.Told.{name_told, name_bytes, schema_told, column_told, NameIn, SchemaFrom}
use Rattle.column_type.proofs.ReadLaws.{name-inside}
use Rattle.column_type.proofs.RuleLaws.{length-name}
use Rattle.packed.specs.Packed.{record_of}
use Rattle.board_answer.specs.declared.Counted.{Counted}
use Rattle.board_answer.specs.Told.{counted, place, after}
use Rattle.board_column_read.specs.Plain.{units, schema_spans}
use Rattle.board_column_read.specs.Made.{record_made, names_made}

-- ---- the record

module _ (s : List ℕ) (c : Column) (index : ℕ) where
  abbrev made : Option Collation → Option Schema → Column
  made x y = record { ty = c.ty; length = c.length; precision = c.precision; scale = c.scale; collation = x; schema = y }

  each : (x : Option Collation) (y : Option Schema) → record_made (made x y) index ≡ record_of (column_told s (made x y)) index
  unfolding record_made record_of
  each None None = refl
  each None (Some n) = refl
  each (Some k) None = refl
  each (Some k) (Some n) = refl

  record_is : record_made c index ≡ record_of (column_told s c) index
  record_is = each c.collation c.schema

-- ---- the names

module _ (s : List ℕ) where
  units_are : (n : Name) → NameIn s n → units (name_told s n) ≡ n.units
  units_are n h =
      let l = length-name s n h in
      let half : length (name_bytes s n) / 2 ≡ n.units = omega arith in
      ap units (name-inside s n h) ∙ half

  spans_are : (at : ℕ) (y : Option Schema) → SchemaFrom s (at + 3) y → names_made y ≡ schema_spans at (schema_told s y)
  spans_are at None h = refl
  spans_are at (Some n) h =
      rw (
        units_are n.database (omega (arith, h)),
        units_are n.owner (omega (arith, h)),
        units_are n.collection h.3,
        h.2,
        h.1,
        h.0,
      )

-- ---- what reading answers and leaves: a column, or nothing

module _ (r : Counted) (s : List ℕ) (at index : ℕ) (new column spans names : List ℕ) (read : Read D.Column) where
  abbrev recorded : Read D.Column → Read (List ℕ)
  recorded x = map_read (λ c. record_of c index) x

  abbrev spanned : Read D.Column → Read (List ℕ)
  spanned x = map_read (λ c. schema_spans at c.schema) x

  abbrev pub Leaves : Type 0
  Leaves = (r ≡ counted (place (recorded read))) × ((new ≡ after (recorded read) column) × (spans ≡ after (spanned read) names))

  leaves : (x : Read D.Column) → x ≡ read → r ≡ counted (place (recorded x)) → new ≡ after (recorded x) column → spans ≡ after (spanned x) names → Leaves
  leaves x e c n m = (
    c ∙ ap (λ (y : Read D.Column). counted (place (recorded y))) e,
    (n ∙ ap (λ (y : Read D.Column). after (recorded y) column) e, m ∙ ap (λ (y : Read D.Column). after (spanned y) names) e),
  )

  pub leaves_column : (c : Column) (next : ℕ) → took (column_told s c) next ≡ read → SchemaFrom s (at + 3) c.schema → r ≡ counted (gives next) →
      new ≡ record_made c index → spans ≡ names_made c.schema → Leaves
  leaves_column c next e h a n m = leaves (took (column_told s c) next) e a (n ∙ record_is s c index) (m ∙ spans_are s at c.schema h)

  -- a column without names
  pub leaves_bare : (c : D.Column) (next : ℕ) → took c next ≡ read → c.schema ≡ None → r ≡ counted (gives next) → new ≡ record_of c index →
      spans ≡ schema_spans at None → Leaves
  leaves_bare c next e h a n m = leaves (took c next) e a n (m ∙ ap (schema_spans at) (sym h))

  pub leaves_nothing : (e : Refusal) → stops e ≡ read → r ≡ counted (refuses e) → new ≡ column → spans ≡ names → Leaves
  leaves_nothing e h a n m = leaves (stops e) h a n m
