-- Reading a value does not look at the names of an XML column's descriptor: the columns' names may be parts of any buffer.
-- Why it holds: rule 6 asks of a schema only whether it is there, and a value's bytes go by the column's type and length.
-- Assumes nothing.
use Rattle.std.specs.Prelude.{None, Option, Some}
use mathlib.Core.Path.{◌≡◌, refl, sym, ap, ◌∙◌}
use mathlib.Core.Bool.{Bool, not}
use mathlib.Core.List.{List, [], ◌∷◌}
use Prim.Native.Nat.{ℕ}
use lib.Dec.{ltb}
use lib.ListN.{length, drop, length-map}
use Rattle.lists.specs.Pick.{pick}
use Rattle.format.specs.Answer.{Read, took, stops, missing, rule, stop_if, further, then_read, map_read, read_at}
use Rattle.format.specs.Descriptor as D
use Rattle.format.specs.Descriptor.{schema_fits, keeps_rule}
use Rattle.format.specs.Value.{Value, family_of, read_family, read_value, encode}
use Rattle.format.specs.Row.{max_columns, cons_read, read_values, read_row}
use Rattle.format.specs.Normal.{encode_row, normal}
use Rattle.column_type.specs.declared.Column.{Column}
use Rattle.column_type.specs.declared.Schema.{Schema}
use Rattle.column_type.specs.Told.{type_told, schema_told, column_told}
use Rattle.columns.specs.Told.{columns_told}

module _ (b : List ℕ) where
  same_schema : (t : D.TypeId) (n : Option Schema) → schema_fits t (schema_told b n) ≡ schema_fits t (schema_told [] n)
  same_schema t None = refl
  same_schema (D.fixed_len t) (Some n) = refl
  same_schema (D.byte_len t) (Some n) = refl
  same_schema (D.u_short_len t) (Some n) = refl
  same_schema (D.long_len t) (Some n) = refl
  same_schema D.daten (Some n) = refl
  same_schema D.xml (Some n) = refl
  same_schema D.udt (Some n) = refl
  same_schema D.ss_variant (Some n) = refl

  same_rule : (c : Column) → keeps_rule (column_told b c) ≡ keeps_rule (column_told [] c)
  unfolding keeps_rule
  same_rule c = rw (same_schema (type_told c.ty) c.schema)

  pub same_value : (c : Column) → read_value (column_told b c) ≡ read_value (column_told [] c)
  unfolding read_value
  same_value c =
      ap {B = List ℕ → Read Value} (λ (k : Bool) (s : List ℕ). stop_if (not k) rule (read_family c.length (family_of (type_told c.ty)) s)) (same_rule c)

  pub same_values : (ys : List Column) → read_values (columns_told b ys) ≡ read_values (columns_told [] ys)
  unfolding read_values
  same_values [] = refl
  same_values (c ∷ ys) =
      ap {B = List ℕ → Read (List Value)} (λ (r : List ℕ → Read Value) (s : List ℕ). then_read r (cons_read (read_values (columns_told b ys))) s) (same_value c)
      ∙ ap {B = List ℕ → Read (List Value)} (λ (r : List ℕ → Read (List Value)) (s : List ℕ). then_read (read_value (column_told [] c)) (cons_read r) s)
      (same_values ys)

  pub same_row : (ys : List Column) → read_row (columns_told b ys) ≡ read_row (columns_told [] ys)
  unfolding read_row
  same_row ys =
      let l : length (columns_told b ys) ≡ length (columns_told [] ys) = length-map ys (column_told b) ∙ sym (length-map ys (column_told [])) in
      ap {B = List ℕ → Read (List Value)} (λ (k : ℕ) (s : List ℕ). stop_if (ltb max_columns k) rule (read_values (columns_told b ys) s)) l
      ∙ ap {B = List ℕ → Read (List Value)} (λ (r : List ℕ → Read (List Value)) (s : List ℕ). stop_if (ltb max_columns (length (columns_told [] ys))) rule
      (r s))
      (same_values ys)

  pub same_encode : (ys : List Column) (vs : List Value) → encode_row (columns_told b ys) vs ≡ encode_row (columns_told [] ys) vs
  unfolding encode_row encode
  same_encode [] vs = refl
  same_encode (c ∷ ys) [] = refl
  same_encode (c ∷ ys) (v ∷ vs) = rw (same_encode ys vs)

  pub same_normal : (ys : List Column) (l : List ℕ) → normal (columns_told b ys) l ≡ normal (columns_told [] ys) l
  unfolding normal
  same_normal ys l = ap (λ (r : List ℕ → Read (List Value)). map_read (encode_row (columns_told b ys)) (r l)) (same_row ys)
      ∙ go (read_row (columns_told [] ys) l)
    where
      go : (r : Read (List Value)) → map_read (encode_row (columns_told b ys)) r ≡ map_read (encode_row (columns_told [] ys)) r
      go (took vs n) = ap (λ (x : List ℕ). took x n) (same_encode ys vs)
      go (stops e) = refl

  -- at a place of the input
  pub at_normal : (ys : List Column) (s : List ℕ) (at : ℕ) → read_at (normal (columns_told b ys)) s at ≡ read_at (normal (columns_told [] ys)) s at
  unfolding read_at
  at_normal ys s at = ap (λ (r : Read (List ℕ)). pick (ltb (length s) at) (stops missing) (further at r)) (same_normal ys (drop at s))
