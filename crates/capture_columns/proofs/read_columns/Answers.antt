-- `capture_columns::read_columns` meets its contract: at each turn what is left, read behind the columns so far, is what the whole list reads as.
-- Assumes nothing.
use mathlib.Core.Path.{◌≡◌, refl, sym, ap, subst, ◌∙◌}
use mathlib.Core.Bool.{Bool}
use mathlib.Core.List.{List, [], map}
use Prim.Native.Nat.{ℕ, ◌≤◌, ◌<◌, ◌+◌, ◌-◌, zero-le}
use native.Mathlib.Nat.{le_antisymm, lt_of_lt_of_le}
use native.Mathlib.Omega.{arith}
use lib.Dec.{ltb}
use lib.ListN.{length, take, length-set}
use borrow.Author.Tests.{lt-ltb, le-ltb}
use Rattle.format.specs.Answer.{took, rule, stop_if, read_at}
use Rattle.format.specs.Descriptor as D
use Rattle.format.specs.Row.{max_columns, read_columns}
use Rattle.format.proofs.Place.{at_behind}
use Rattle.column_type.specs.Told.{column_told}
use Rattle.capture_columns.specs.Told.{stop_of, stop_at}
use Rattle.capture_columns.proofs.Reading.{read_left, left_begins, left_more, left_stops, left_ends}
use Rattle.capture_columns.proofs.Reading.{stop_begins, stop_goes_on, stop_is, stop_behind_lem, column-inside, held_more}
use Rattle.capture_columns.proofs.read_columns.Goals.{Start}
use Rattle.capture_columns.proofs.read_columns.Goals as goal

less-next : (i count : ℕ) → i < count → i + 1 ≤ count
less-next i count l = omega arith

stops-inside : (count : ℕ) (s : List ℕ) (at : ℕ) → count ≤ 1024 → stop_at count s at ≡ stop_of count s 0 at
stops-inside count s at l = rw (le-ltb 1024 count l)

pub returns-then-count-gt1024 : goal.returns-then-count-gt1024
returns-then-count-gt1024 c =
    let many = lt-ltb 1024 c.args.count c.if-count-gt1024.true in
    record {
      told = ap (λ (b : Bool). stop_if b rule (read_at (read_columns c.args.count) c.args.s.now c.args.cursor.at)) (sym many);
      stop = rw many;
    }

-- the number of columns is kept: what is read then, and where it stops
listed : (c : Start) → c.args.count ≤ 1024 →
    stop_if (ltb max_columns c.args.count) rule (read_at (read_columns c.args.count) c.args.s.now c.args.cursor.at)
    ≡ (read_at (read_columns c.args.count) c.args.s.now c.args.cursor.at)
listed c l = ap (λ (b : Bool). stop_if b rule (read_at (read_columns c.args.count) c.args.s.now c.args.cursor.at)) (le-ltb 1024 c.args.count l)

pub returns-then-s-cursor : goal.returns-then-s-cursor
returns-then-s-cursor c =
    let s = c.args.s.now in
    let count = c.args.count in
    let at = c.args.cursor.at in
    let few = c.if-count-gt1024.false in
    record {
      told = sym (listed (goal.at.returns-then-s-cursor c).Start few ∙ at_behind (read_columns count) s at c.if-s-cursor.true);
      stop = sym (stops-inside count s at few ∙ stop_behind_lem s count at c.if-s-cursor.true);
    }

pub loop-i-init : goal.loop-i-init
loop-i-init c =
    let s = c.args.s.now in
    let count = c.args.count in
    let at = c.args.cursor.at in
    (zero-le, c.if-count-gt1024.false, refl, c.if-s-cursor.false, left_begins s count at, stop_begins s count at)

pub loop-i-preserved : goal.loop-i-preserved
loop-i-preserved c =
    let s = c.args.s.now in
    let count = c.args.count in
    let i = c.loop-i.i in
    let cols = c.loop-i.list in
    let inv = c.loop-i.invariant in
    let less = c.loop-i-test.true in
    let e = sym c.in-Ok.ensures.told in
    let room : i < length cols = subst (λ (n : ℕ). i < n) (sym inv.2) (lt_of_lt_of_le less inv.1) in
    let more = left_more s count i less (map (column_told s) (take i cols)) c.loop-i.at.at (column_told s c.in-Ok.c) c.in-Ok.next.at e in
    let held = held_more (column_told s) i cols c.in-Ok.c room in (
      less-next i count less,
      inv.1,
      length-set cols i c.in-Ok.c ∙ inv.2,
      column-inside s c.loop-i.at.at (column_told s c.in-Ok.c) c.in-Ok.next.at e,
      inv.4 ∙ (more ∙ ap (λ (cs : List D.Column). read_left (count - (i + 1)) s cs c.in-Ok.next.at) (sym held)),
      inv.5 ∙ stop_goes_on s count i less [] c.loop-i.at.at i (column_told s c.in-Ok.c) c.in-Ok.next.at e,
    )

pub returns-in-Err : goal.returns-in-Err
returns-in-Err c =
    let s = c.args.s.now in
    let count = c.args.count in
    let i = c.loop-i.i in
    let inv = c.loop-i.invariant in
    let less = c.loop-i-test.true in
    let at = c.loop-i.at.at in
    let cols = map (column_told s) (take i c.loop-i.list) in
    let e = sym c.in-Err.ensures.told in
    record {
      told = sym (listed (goal.at.returns-in-Err c).Start inv.1 ∙ (inv.4 ∙ left_stops s count i less cols at _ e));
      stop = sym (stops-inside count s c.args.cursor.at inv.1 ∙ (inv.5 ∙ stop_is s count i less [] at i _ e));
    }

pub returns : goal.returns
returns c =
    let s = c.args.s.now in
    let count = c.args.count in
    let i = c.loop-i.i in
    let inv = c.loop-i.invariant in
    let at = c.loop-i.at.at in
    let cols = map (column_told s) (take i c.loop-i.list) in
    let all : i ≡ count = le_antisymm inv.0 c.loop-i-test.false in
    let ends = inv.4 ∙ left_ends s count i cols at inv.0 c.loop-i-test.false inv.3 in
    record {
      told = sym (listed (goal.at.returns c).Start inv.1 ∙ (ends ∙ ap (λ (n : ℕ). took (map (column_told s) (take n c.loop-i.list)) at) all));
      stop = tt;
    }
