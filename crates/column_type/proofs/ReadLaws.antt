-- What a step of the reader shows: each continuation of the definition, at a place, goes on where the step before it ended.
-- Assumes nothing.
use Rattle.std.specs.Prelude.{None, Some}
use Rattle.std.specs.Prelude.{Err, Ok, Result}
use mathlib.Core.Path.{◌≡◌, refl, ◌∙◌}
use mathlib.Core.List.{List}
use Prim.Native.Nat.{ℕ, ◌+◌, ◌*◌, ◌<◌, ◌≤◌}
use native.Mathlib.Omega.{arith}
use lib.ListN.{length, take, drop}
use lib.Dec.{ltb}
use borrow.Author.Tests.{le-ltb}
use Rattle.format.specs.Answer.{took, stops, missing, stop_if, read_at, inside, part}
use Rattle.format.specs.Number.{read_byte, read_low, read_bytes}
use Rattle.format.specs.Descriptor.{read_name, read_units, with_names}
use Rattle.format.proofs.Plain.{byte-took, low-took}
use Rattle.format.proofs.Place.{Stays, took_at, stays_low, stays_bytes, stays_then}
use Rattle.wire.proofs.Reading.{count_there, count-missing}
use Rattle.column_type.specs.declared.Name.{Name}
use Rattle.column_type.specs.declared.TypeId.TheVariants as T
use Rattle.column_type.specs.Told.{name_told, column_told, name_bytes, NameIn, ThirdFrom, NamesFrom, schema_of}
use Rattle.column_type.specs.declared.Column.{Column}
use Rattle.wire.specs.declared.Cursor.{Cursor}
use Rattle.wire.specs.declared.Refusal.{Refusal}

module _ (s : List ℕ) (at : ℕ) where
  -- the place behind a byte, and behind a number
  pub byte_next : (b m : ℕ) → read_at read_byte s at ≡ took b m → m ≡ at + 1
  byte_next b m h = let t = took_at read_byte s at b m h in omega (arith, byte-took (drop at s) b t.1 t.2, t.3)

  pub low_next : (w v m : ℕ) → read_at (read_low w) s at ≡ took v m → m ≡ at + w
  low_next w v m h = let t = took_at (read_low w) s at v m h in omega (arith, low-took w (drop at s) v t.1 t.2, t.3)

  bytes_is : (w : ℕ) (l : List ℕ) → read_bytes w l ≡ stop_if (ltb (length l) w) missing (took (take w l) w)
  unfolding read_bytes
  bytes_is w l = refl

  pub bytes_there : (w : ℕ) → at + w ≤ length s → took (take w (drop at s)) (at + w) ≡ read_at (read_bytes w) s at
  bytes_there w = count_there s at (read_bytes w) w (take w) (bytes_is w)

  pub bytes-missing : (w : ℕ) → length s < at + w → stops missing ≡ read_at (read_bytes w) s at
  bytes-missing w = count-missing s at (read_bytes w) w (take w) (bytes_is w)

-- a name that lies in the input is told as its bytes
pub name-inside : (s : List ℕ) (n : Name) → NameIn s n → name_told s n ≡ inside (name_bytes s n)
unfolding part
name-inside s n h = rw (le-ltb (length s) (n.start + 2 * n.units) h)

-- a name's reader stays inside
pub stays_name : (w : ℕ) → Stays (read_name w)
stays_name w = stays_then (read_low w) read_units (stays_low w) (λ (n : ℕ). stays_bytes (2 * n))

-- a column with three names that lie in the input
pub names_told : (s : List ℕ) (a b c : Name) → NameIn s a → NameIn s b → NameIn s c →
    column_told s (record { ty = T.Xml; length = 0; precision = 0; scale = 0; collation = None; schema = Some (schema_of a b c) })
    ≡ with_names (name_bytes s a) (name_bytes s b) (name_bytes s c)
names_told s a b c h i j = rw (name-inside s a h, name-inside s b i, name-inside s c j)

-- the third name, behind two that stand where they should
pub third_names : (s : List ℕ) (a b : Name) (place : ℕ) (r : Result (Column × Cursor) Refusal) → b.start ≡ a.start + 2 * a.units + 1 →
    place ≡ b.start + 2 * b.units + 2 → ThirdFrom s a b place r → NamesFrom s a.start r
third_names s a b place (Ok (c, next)) h i t = rw t.1 (refl, h, t.2 ∙ i, t.3)
third_names s a b place (Err e) h i t = tt
