-- A value of one width that is there: what was read, how many bytes it took, and that they are the bytes that are written for it.
use Rattle.std.specs.Prelude.{ℕ, ◌+◌, ◌<◌, ◌≤◌, ◌≡◌, List, [], eqb, length, get_or, take, drop, None, Option, Some}
use Rattle.lists.specs.Pick.{pick}
use Rattle.format.specs.Answer.{took}
use Rattle.format.specs.Descriptor.{Column}
use Rattle.format.specs.Scalar.{Kind, width, scalar_of}
use Rattle.format.specs.Value.{Value, read_value, copied_out, encode}
use Rattle.value_kind.specs.Told.{kind_told}
use Rattle.packed_plain.specs.Says.{Tells}
use Rattle.packed_plain.specs.declared.Plain.{Plain}
use Rattle.packed_plain.specs.declared.Plain.TheVariants as P

-- the rest begins with the value, n bytes long, as it is written; nothing of it is copied out
pub record Stands (c : Column) (rest : List ℕ) (v : Value) (n : ℕ) : Type 0 where
  pub read : read_value c rest ≡ took v n
  pub same : encode c v ≡ take n rest
  pub inside : n ≤ length rest
  pub none : copied_out c v ≡ []

-- the value; where nothing was told of the column it is null, and no count is told
abbrev pub scalar_in : Kind → List ℕ → Value
scalar_in k rest = Value.scalar (scalar_of k (take (width k) rest))

abbrev pub value_in : Option Plain → List ℕ → Value
value_in (Some (P.Bare k)) rest = scalar_in (kind_told k) rest
value_in (Some (P.Counted k)) rest = pick (eqb (get_or rest 0 0) 0) Value.null (scalar_in (kind_told k) (drop 1 rest))
value_in None rest = Value.null

-- its bytes are there, and it is no bit
abbrev pub HasBytes : Option Plain → List ℕ → Type 0
HasBytes (Some (P.Bare k)) rest = (width (kind_told k) ≤ length rest) × (kind_told k ≡ Kind.bit → ⊥)
HasBytes (Some (P.Counted k)) rest = (0 < length rest) × ((get_or rest 0 0 ≡ 0 → ⊥) → 1 + width (kind_told k) ≤ length rest) × (kind_told k ≡ Kind.bit → ⊥)
HasBytes None rest = Unit {0}

-- a width that is told is the value's
abbrev pub IsWidth : Option Plain → List ℕ → Option ℕ → Type 0
IsWidth p rest None = Unit {0}
IsWidth p rest (Some n) = (c : Column) → Tells p c → (Stands c rest (value_in p rest) n × HasBytes p rest)

abbrev pub IsLook : Column → List ℕ → Option (Plain × ℕ) → Type 0
IsLook c rest None = Unit {0}
IsLook c rest (Some (p, n)) = Stands c rest (value_in (Some p) rest) n × HasBytes (Some p) rest

abbrev pub IsWidthIn : Column → List ℕ → Option ℕ → Type 0
IsWidthIn c rest None = Unit {0}
IsWidthIn c rest (Some n) = (v : Value) × Stands c rest v n
