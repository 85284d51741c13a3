-- What this crate's declared types tell, in the words of `format`, and what follows a descriptor's type byte as the code reads it.
-- Second definitions, tied to those of `format` by proofs/Laws.antt.
use Rattle.std.specs.Prelude.{Err, Ok, Result}
use Rattle.std.specs.Prelude.{ℕ, ◌<◌, List}
use Rattle.lists.specs.Pick.{pick}
use Rattle.format.specs.Answer.{Read, took, stops, map_read, then_read}
use Rattle.format.specs.Number.{read_byte, read_low}
use Rattle.format.specs.Descriptor.{TypeId, Column, plain, has_digits, has_collation, with_scale, with_sort}
use Rattle.wire.specs.Told.{refusal_told}
use Rattle.wire.specs.declared.Cursor.{Cursor}
use Rattle.wire.specs.declared.Refusal.{Refusal}

-- two numbers that were read, as the column that they make
abbrev pub pair_told : (ℕ → ℕ → Column) → Result (ℕ × ℕ × Cursor) Refusal → Read Column
pair_told f (Ok (a, b, next)) = took (f a b) next.at
pair_told f (Err e) = stops (refusal_told e)

-- the first of them lies below a bound
abbrev pub PairBelow : ℕ → Result (ℕ × ℕ × Cursor) Refusal → Type 0
PairBelow n (Ok (a, b, next)) = a < n
PairBelow n (Err e) = Unit {0}

-- a number of w bytes and a byte: precision and scale, or a collation and its sort
abbrev pub read_last : (ℕ → ℕ → Column) → ℕ → List ℕ → Read Column
read_last f a s = map_read (f a) (read_byte s)

abbrev pub read_pair : ℕ → (ℕ → ℕ → Column) → List ℕ → Read Column
read_pair w f s = then_read (read_low w) (read_last f) s

-- what follows the length
abbrev pub read_behind : TypeId → ℕ → List ℕ → Read Column
read_behind t n s = pick (has_digits t) (read_pair 1 (with_scale t n) s) (pick (has_collation t) (read_pair 4 (with_sort t n) s) (took (plain t n) 0))
