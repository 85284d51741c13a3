-- Rule 6 on the declared types: a schema is Xml's alone, and a span keeps the rule when it lies in the buffer and its count fits.
-- Assumes nothing.
use Rattle.std.specs.Prelude.{Some}
use mathlib.Core.Path.{◌≡◌, refl, sym, ap, ◌∙◌}
use mathlib.Core.List.{List}
use mathlib.Core.Bool.{Bool, true, false}
use Prim.Native.Nat.{ℕ, ◌+◌, ◌-◌, ◌*◌, ◌/◌, ◌%◌, ◌^◌, ◌<◌}
use native.Mathlib.Omega.{arith}
use lib.ListN.{length, drop, length-drop}
use lib.Seq.{length-take-le}
use lib.Dec.{ltb, eqb}
use borrow.Author.Tests.{lt-ltb, eq-eqb}
use Rattle.format.specs.Answer.{outside, part}
use Rattle.format.specs.Descriptor as D
use Rattle.format.specs.Descriptor.{both, name_fits, schema_fits}
use Rattle.column_type.specs.declared.Name.{Name}
use Rattle.column_type.specs.Told.{is_xml, name_told, name_bytes, NameIn}
use Rattle.column_type.proofs.ReadLaws.{name-inside}

pub xml-schema : (t : D.TypeId) (n : D.Schema) → is_xml t ≡ schema_fits t (Some n)
xml-schema (D.fixed_len t) n = refl
xml-schema (D.byte_len t) n = refl
xml-schema (D.u_short_len t) n = refl
xml-schema (D.long_len t) n = refl
xml-schema D.daten n = refl
xml-schema D.xml n = refl
xml-schema D.udt n = refl
xml-schema D.ss_variant n = refl

module _ (s : List ℕ) (n : Name) where
  pub length-name : NameIn s n → length (name_bytes s n) ≡ 2 * n.units
  length-name h = length-take-le (2 * n.units) (drop n.start s) (omega (arith, length-drop n.start s))

  pub name-outside : length s < n.start + 2 * n.units → name_told s n ≡ outside
  unfolding part
  name-outside h = rw (lt-ltb (length s) (n.start + 2 * n.units) h)

  pub name_leaves : (w : ℕ) → length s < n.start + 2 * n.units → false ≡ name_fits w (name_told s n)
  name_leaves w h = ap (name_fits w) (sym (name-outside h))

  pub name-lies : (w : ℕ) → NameIn s n → ltb n.units (256 ^ w) ≡ name_fits w (name_told s n)
  name-lies w h =
      let l = length-name h in
      let e : eqb (length (name_bytes s n) % 2) 0 ≡ true = eq-eqb (length (name_bytes s n) % 2) 0 (omega arith) in
      let f : length (name_bytes s n) / 2 ≡ n.units = omega arith in
      ap (λ (k : ℕ). ltb k (256 ^ w)) (sym f) ∙
      (ap (λ (b : Bool). both b (ltb (length (name_bytes s n) / 2) (256 ^ w))) (sym e) ∙ ap (name_fits w) (sym (name-inside s n h)))
