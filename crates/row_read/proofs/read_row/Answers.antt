-- `row_read::read_row` meets its contract: judged first, then a turn takes a column, and the steps' laws of read_step say what is joined. Assumes nothing.
use Rattle.std.proofs.Common.{◌≡◌, ℕ, List, length, sym, ap, ◌∙◌, arith}
use Rattle.std.proofs.lemmas.List.{get_or_default}
use Rattle.wire.proofs.Exit.{exit_is}
use Rattle.format.specs.Answer.{took, map_read}
use Rattle.format.specs.Value.{Value}
use Rattle.columns.specs.None.{no_column}
use Rattle.judge_step.specs.Told.{needs_told}
use Rattle.read_step.specs.Told.{Place, place_told, first_place}
use Rattle.read_step.proofs.Joining.{Read_in, joining_fits, joining_long, joining_refused, joining_begins, joining_asks, joining_next}
use Rattle.read_step.proofs.Joining.{joining_ends, joining_none}
use Rattle.row_read.proofs.read_row.Goals.{Else-out-row, then-row-ne0+else-loop-c-test, else-row-ne0}
use Rattle.row_read.proofs.read_row.Goals as goal

pub returns-in_err-row : goal.returns-in_err-row
returns-in_err-row c =
    let a = c.args in record {
      told = λ b. rw (exit_is _ _ c.from_residual.ensures.1)
          (joining_refused a.cols.now a.s.now a.cursor.at a.out.now b _ (c.in_err-row.ensures b)).told;
      room = λ b. (joining_refused a.cols.now a.s.now a.cursor.at a.out.now b _ (c.in_err-row.ensures b)).room;
    }

pub returns-then-out-row : goal.returns-then-out-row
returns-then-out-row c =
    let a = c.args in
    let r = c.in_ok-row.row in record {
      told = λ b. (joining_long a.cols.now a.s.now a.cursor.at a.out.now b (needs_told r) r.next.at (c.in_ok-row.ensures b) c.if-out-row.true).told;
      room = λ b. (joining_long a.cols.now a.s.now a.cursor.at a.out.now b (needs_told r) r.next.at (c.in_ok-row.ensures b) c.if-out-row.true).room;
    }

-- what fits is read
fits : (c : Else-out-row) (b : List ℕ) →
    let a = c.args in
    Read_in a.cols.now a.s.now a.cursor.at a.out.now (needs_told c.in_ok-row.row) c.in_ok-row.row.next.at b
fits c b =
    let a = c.args in
    joining_fits a.cols.now a.s.now a.cursor.at a.out.now b (needs_told c.in_ok-row.row) c.in_ok-row.row.next.at (c.in_ok-row.ensures b) c.if-out-row.false

pub loop-c-init : goal.loop-c-init
loop-c-init c =
    let a = c.args in
    λ b vs next h. rw c.first-first.ensures (joining_begins a.cols.now a.s.now a.cursor.at a.out.now b vs next h)

pub join_on-place-requires : goal.join_on-place-requires
join_on-place-requires c =
    let a = c.args in
    λ b.
    let f = fits (goal.at.join_on-place-requires c).Else-out-row b in
    joining_asks a.cols.now a.s.now a.cursor.at a.out.now c.loop-c.c-index (place_told c.loop-c.place) c.loop-c.out c.loop-c-test.true _
    (get_or_default a.cols.now c.loop-c.c-index _ no_column c.loop-c-test.true) b f.values _ f.is (c.loop-c.invariant b f.values _ f.is)

pub loop-c-preserved : goal.loop-c-preserved
loop-c-preserved c =
    let a = c.args in
    λ b vs next h.
    joining_next a.cols.now a.s.now a.cursor.at a.out.now c.loop-c.c-index (place_told c.loop-c.place) c.loop-c.out c.loop-c-test.true _
    (get_or_default a.cols.now c.loop-c.c-index _ no_column c.loop-c-test.true) b vs next h (c.loop-c.invariant b vs next h)
    (place_told c.join_on-place.result) c.join_on-place.new.out (c.join_on-place.ensures b)

pub returns-clause-told : goal.returns-clause-told
returns-clause-told c b =
    let a = c.args in
    let f = fits (goal.at.returns-clause-told c).Else-out-row b in
    ap (λ (p : Place). took p c.in_ok-row.row.next.at) c.first-first.ensures
    ∙ ap (map_read (λ (vs : List Value). first_place a.cursor.at)) (sym f.is)

pub returns-clause-room : goal.returns-clause-room
returns-clause-room c b =
    let a = c.args in
    let f = fits (goal.at.returns-clause-room c).Else-out-row b in
    elim c.if-row-ne0.branch [
      | then-row-ne0+else-loop-c-test w ↦
          let e : w.loop-c.c-index ≡ length a.cols.now = omega arith in
          w.out-is
          ∙ joining_ends a.cols.now a.s.now a.cursor.at a.out.now b f.values _ f.is (place_told w.loop-c.place) w.loop-c.out
          (rw e at (w.loop-c.invariant b f.values _ f.is))
      | else-row-ne0 w ↦
          w.out-is ∙ joining_none a.cols.now a.s.now a.cursor.at a.out.now b f.values _ f.is (f.count ∙ w.if-row-ne0.false)
    ]
