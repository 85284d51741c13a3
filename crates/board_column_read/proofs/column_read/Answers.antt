-- `board_column_read::column_read` meets its contract: what a common form says of the rest is so at its place; every other descriptor goes the long way.
-- Assumes nothing.
use Rattle.std.specs.Prelude.{Some}
use mathlib.Core.Path.{refl, sym, subst, ◌∙◌}
use mathlib.Core.List.{List}
use Prim.Native.Nat.{ℕ}
use native.Mathlib.Omega.{arith}
use lib.ListN.{drop, length-drop}
use Rattle.lists.proofs.Lent.{rest_is}
use Rattle.format.specs.Descriptor.{read_column}
use Rattle.format.proofs.Place.{at_took}
use Rattle.record_read.specs.Told.{IsRead}
use Rattle.board_column_read.proofs.Laws.{leaves_bare}
use Rattle.board_column_read.proofs.column_read.Goals.{In-Some}
use Rattle.board_column_read.proofs.column_read.Goals as goal

-- what was read, told of the rest
found : (c : In-Some) → IsRead (drop c.args.at c.args.bytes.now) (Some c.in-Some.f)
found c =
    let a = c.args in
    subst (λ (l : List ℕ). IsRead l (Some c.in-Some.f)) (rest_is a.bytes.now a.at) c.in-Some.ensures

pub overflow_add-at : goal.overflow_add-at
overflow_add-at c =
    let a = c.args in
    record {
      fits = omega (arith, (found (goal.at.overflow_add-at c).In-Some).0, length-drop a.at a.bytes.now, c.if-bytes-at.false, c.well_formed);
    }

pub returns-in-Some : goal.returns-in-Some
returns-in-Some c =
    let a = c.args in
    let s = a.bytes.now in
    let d = found (goal.at.returns-in-Some c).In-Some in
    let e = at_took read_column s a.at d.1 _ c.if-bytes-at.false d.2 in
    let all = leaves_bare _ s a.at a.index _ a.column.now _ a.names.now _ d.1 _ (sym e) d.3 c.at.ensures
    (c.record_of.ensures ∙ d.4 a.index) refl in record {
      answer = all.0;
      column = all.1.0;
      names = all.1.1;
    }
