-- Whatever `write_row` writes reads back. Where it answers n bytes, the room afterwards, read from its front, reads as the values that were given and ends
-- at n; its first n bytes are their own normal form; behind them the room is as it was.
-- Asked of the values is that they are values of the code's type, as every value that a program holds is (`Typed`).
-- Why it holds: by the contract the bytes are those that `write_row` gives, at the front of the room, and what `write_row` gives reads back (`row_agrees` of
-- format). A value of the code's type is in the range that this asks for (proofs/Ranges.antt).
-- Assumes nothing.
use Rattle.std.specs.Prelude.{Ok, Result}
use mathlib.Core.Path.{◌≡◌, refl}
use mathlib.Core.Bool.{Bool, true, false}
use mathlib.Core.List.{List, ◌++◌}
use Prim.Native.Nat.{ℕ}
use lib.Dec.{ltb}
use lib.ListN.{length, take, drop}
use lib.Seq.{take-append_seam, drop-append_seam}
use Rattle.format.specs.Answer.{Answer, gives, refuses, took, room, fitted, wrote, room_after}
use Rattle.format.specs.Value as Values
use Rattle.format.specs.Row.{read_row, write_row}
use Rattle.format.specs.Normal.{normal}
use Rattle.format.proofs.Writing.{RangedAll, GivenAll, row_agrees}
use Rattle.wire.proofs.Decided.{Writes}
use Rattle.wire.proofs.Writing.{count_is, not_refused}
use Rattle.column_type.specs.declared.Column.{Column}
use Rattle.value_kind.specs.declared.Value.{Value}
use Rattle.columns.specs.Told.{columns_told, values_told}
use Rattle.row_write.proofs.Ranges.{Typed, all_ranged}
use Rattle.wire.specs.declared.Refusal.{Refusal}

-- what `row_write::write_row` promises of its answer and of the room
module _ (buffer : List ℕ) (cols : List Column) (values : List Value) where
  -- the row that is asked for
  abbrev asked : Answer (List ℕ)
  asked = write_row (columns_told buffer cols) (values_told buffer values)

  abbrev pub WritesRow : List ℕ → Result ℕ Refusal → List ℕ → Type 0
  WritesRow out r after = Writes asked out r after

-- an answered count is that of the bytes that were asked for
record Gave (a : Answer (List ℕ)) (size n : ℕ) : Type 0 where
  pub bytes : List ℕ
  pub given : a ≡ gives bytes
  pub fit : fitted a size ≡ gives bytes
  pub count : n ≡ length bytes

gave : (a : Answer (List ℕ)) (size n : ℕ) → gives n ≡ wrote (fitted a size) → Gave a size n
unfolding fitted
gave (gives b) size n h = go (ltb size (length b)) refl
  where
    go : (t : Bool) → ltb size (length b) ≡ t → Gave (gives b) size n
    go true e = not_refused room n (rw e at h)
    go false e = record { bytes = b; given = refl; fit = rw e; count = count_is (gives b) n b (rw e at h) refl }
gave (refuses e) size n h = not_refused e n h

-- the room afterwards
pub record ReadsBack (buffer : List ℕ) (cols : List Column) (values : List Value) (out after : List ℕ) (n : ℕ) : Type 0 where
  pub found : List Values.Value
  pub given : GivenAll (values_told buffer values) found
  pub reads : read_row (columns_told buffer cols) after ≡ took found n
  pub own : normal (columns_told buffer cols) after ≡ took (take n after) n
  pub kept : drop n after ≡ drop n out

module _ (buffer : List ℕ) (cols : List Column) (values : List Value) (out after : List ℕ) (n : ℕ) where
  after_is : (j : List ℕ) → fitted (asked buffer cols values) (length out) ≡ gives j →
      after ≡ room_after (fitted (asked buffer cols values) (length out)) out → after ≡ j ++ drop (length j) out
  unfolding room_after
  after_is j e h = rw e at h

  back : (j : List ℕ) → asked buffer cols values ≡ gives j → n ≡ length j → after ≡ j ++ drop (length j) out → RangedAll (values_told buffer values) →
      ReadsBack buffer cols values out after n
  back j g c e r =
      let a = row_agrees (columns_told buffer cols) (values_told buffer values) j r g in
      let f : take n after ≡ j = rw (e, c) (take-append_seam j (drop (length j) out)) in
      record {
        found = a.values;
        given = a.given;
        reads = rw (e, c) (a.reads (drop (length j) out));
        own = rw (f, e, c) (a.own (drop (length j) out));
        kept = rw (e, c) (drop-append_seam j (drop (length j) out));
      }

  pub reads_back : Typed values → WritesRow buffer cols values out (Ok n) after → ReadsBack buffer cols values out after n
  reads_back r p =
      let g = gave (asked buffer cols values) (length out) n p.answer in
      back g.bytes g.given g.count (after_is g.bytes g.fit p.room) (all_ranged buffer values r)
