-- One value's turn: a value that was taken under a column that was made, and one whose width the record tells.
-- Assumes nothing.
use Rattle.std.specs.Prelude.{None, Option, Some}
use mathlib.Core.Path.{◌≡◌, refl, sym, ap, ◌∙◌}
use mathlib.Core.Bool.{Bool, true, false}
use mathlib.Core.List.{List, []}
use Prim.Native.Nat.{ℕ, ◌+◌, ◌≤◌}
use native.Mathlib.Nat.{add-zero}
use lib.Dec.{eqb}
use lib.ListN.{length, get_or, drop, take-append-drop}
use Rattle.lists.specs.Pick.{pick}
use Rattle.lists.specs.Put.{put_at}
use Rattle.lists.proofs.Split.{clash}
use Rattle.format.specs.Answer.{Read, took, stops, map_read, read_at}
use Rattle.format.specs.Descriptor as D
use Rattle.format.specs.Value.{Value, read_value}
use Rattle.format.specs.Found.{found_of}
use Rattle.row_place.specs.Told.{Placed, placed_of}
use Rattle.read_step.specs.Told.{Place}
use Rattle.read_step.specs.Steps.{copied_in}
use Rattle.packed_slot.specs.Slots.{slot_of}
use Rattle.packed_plain.specs.declared.Plain.{Plain}
use Rattle.packed_plain.specs.declared.Plain.TheVariants as P
use Rattle.plain_look.specs.Stands.{Stands, value_in}
use Rattle.plain_look.proofs.Standing.{there_at}
use Rattle.plain_slot.specs.Slots.{value_slot}
use Rattle.packed_slots.specs.Steps.{Taken}

-- under a column that was made
pub taken_of : (d : D.Column) (r : Read Value) (p : Place) (at : ℕ) (values out values' out' : List ℕ) (f : Placed) (next : ℕ)
    → took f next ≡ map_read (placed_of d p.at p.copied) r → values' ≡ put_at values at (slot_of f.found)
    → out' ≡ put_at out p.copied (copied_in d r) → Taken d r p at values out values' out' (record { at = next; copied = f.copied })
taken_of d (took v n) p at values out values' out' f next h w o =
    let e : f ≡ placed_of d p.at p.copied v = cc in
    let k : next ≡ n = cc in
    (w ∙ rw e refl, o, rw (e, k) refl)
taken_of d (stops e) p at values out values' out' f next h w o = clash cc

-- the numbers of null and of a scalar are those of what is found
slot_found : (p : Option Plain) (rest : List ℕ) (d : D.Column) (at copied : ℕ) → value_slot (value_in p rest) ≡ slot_of (found_of d at copied (value_in p rest))
slot_found (Some (P.Bare k)) rest d at copied = refl
slot_found (Some (P.Counted k)) rest d at copied = go (eqb (get_or rest 0 0) 0)
  where
    go : (b : Bool) →
        let v = pick b Value.null (value_in (Some (P.Bare k)) (drop 1 rest)) in value_slot v ≡ slot_of (found_of d at copied v)
    go true = refl
    go false = refl
slot_found None rest d at copied = refl

put_none : (out : List ℕ) (o : ℕ) → out ≡ put_at out o []
unfolding put_at
put_none out o = sym (rw (add-zero o) (take-append-drop o out))

-- of a width that the record tells
module _ (d : D.Column) (s : List ℕ) (p : Place) (told : Option Plain) (n : ℕ) (h : p.at ≤ length s)
    (w : Stands d (drop p.at s) (value_in told (drop p.at s)) n) where
  pub taken-width : (at : ℕ) (values out values' : List ℕ) → values' ≡ put_at values at (value_slot (value_in told (drop p.at s)))
      → Taken d (read_at (read_value d) s p.at) p at values out values' out (record { at = p.at + n; copied = p.copied })
  taken-width at values out values' e =
      let v = value_in told (drop p.at s) in
      rw (there_at d s p.at v n h w) (
        e ∙ ap (put_at values at) (slot_found told (drop p.at s) d p.at p.copied),
        rw w.none (put_none out p.copied),
        rw (w.none, add-zero p.copied) refl,
      )
