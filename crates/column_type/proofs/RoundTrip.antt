-- Demand 3's sentence on descriptors, of the code: by the contracts of `read_column` and `write_column`, a column that was read is written again, from the
-- buffer
-- that it was read from, as the bytes that it was read from; and one that was written reads back as what was written.
-- Assumes nothing.
use Rattle.std.specs.Prelude.{Ok, Result}
use mathlib.Core.Path.{◌≡◌, sym, ap, ◌∙◌}
use mathlib.Core.List.{List, ◌++◌}
use mathlib.Core.Bool.{false}
use Prim.Native.Nat.{ℕ, ◌-◌, ◌≤◌}
use native.Mathlib.Nat.{zero-add}
use native.Mathlib.Omega.{arith}
use lib.ListN.{length, take, drop}
use Rattle.format.specs.Answer.{gives, took, read_at}
use Rattle.format.specs.Descriptor.{read_column, write_column}
use Rattle.format.proofs.Number.{Bytes}
use Rattle.format.proofs.Place.{took_at, at_took}
use Rattle.format.proofs.Plain.{bytes_drop}
use Rattle.format.proofs.Descriptor.{odd_marker, written_again, again}
use Rattle.wire.specs.declared.Cursor.{Cursor}
use Rattle.column_type.specs.declared.Column.{Column}
use Rattle.column_type.specs.Told.{column_told, column_read_told}
use Rattle.wire.specs.declared.Refusal.{Refusal}

pub read-written : (s : List ℕ) (at : ℕ) (c : Column) (next : Cursor) → Bytes s → column_read_told s (Ok (c, next)) ≡ read_at read_column s at →
    odd_marker (drop at s) ≡ false →
    write_column (column_told s c) ≡ gives (take (next.at - at) (drop at s))
read-written s at c next b h o =
    let t = took_at read_column s at (column_told s c) next.at (sym h) in
    let e : next.at - at ≡ t.1 = omega (arith, t.3) in
    rw e (written_again (drop at s) (column_told s c) t.1 (bytes_drop at s b) t.2 o)

pub written_read : (names : List ℕ) (c : Column) (b rest : List ℕ) (r : Result (Column × Cursor) Refusal) → write_column (column_told names c) ≡ gives b →
    column_read_told (b ++ rest) r ≡ read_at read_column (b ++ rest) 0 →
    column_read_told (b ++ rest) r ≡ took (column_told names c) (length b)
written_read names c b rest r h e =
    let i : 0 ≤ length (b ++ rest) = omega arith in
    e ∙
    (at_took read_column (b ++ rest) 0 (column_told names c) (length b) i (again (column_told names c) b rest h) ∙ ap (took (column_told names c))
    (zero-add (length b)))
