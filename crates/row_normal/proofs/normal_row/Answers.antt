-- `row_normal::normal_row` meets its contract: judged first, then a turn takes a column, and the steps' laws of normal_step say what is copied. Assumes
-- nothing.
use Rattle.std.proofs.Common.{◌≡◌, List, [], ℕ, length, sym, ap, ◌∙◌, arith}
use Rattle.std.proofs.lemmas.List.{get_or_default}
use Rattle.wire.proofs.Exit.{exit_is}
use Rattle.format.specs.Answer.{Read, took, map_read, room_after_read}
use Rattle.columns.specs.None.{no_column}
use Rattle.columns.specs.Told.{columns_told}
use Rattle.judge_step.specs.Told.{needs_told}
use Rattle.normal_step.proofs.Answering.{any_names, normal_fits, normal_long, normal_refused}
use Rattle.normal_step.proofs.Copying.{answer, Copying, copying_begins, copying_asks, copying_next, copying_closes, copying_ends, copying_refused}
use Rattle.row_normal.proofs.normal_row.Goals.{Else-out-row, After-loop-c}
use Rattle.row_normal.proofs.normal_row.Goals as goal

pub returns-in_err-row : goal.returns-in_err-row
returns-in_err-row c =
    let a = c.args in
    let names = any_names a.cols.now a.s.now a.cursor.at (length a.out.now) in
    let t = copying_refused a.cols.now a.s.now a.cursor.at a.out.now _
    (normal_refused (columns_told [] a.cols.now) a.s.now a.cursor.at (length a.out.now) _ (c.in_err-row.ensures [])) in
    rw (exit_is _ _ c.from_residual.ensures.1) (record {
      answer = λ b. t.0 ∙ ap (map_read length) (names b);
      room = λ b. t.1 ∙ ap (λ (r : Read (List ℕ)). room_after_read (λ (l : List ℕ). l) r a.out.now) (names b);
    })

pub returns-then-out-row : goal.returns-then-out-row
returns-then-out-row c =
    let a = c.args in
    let names = any_names a.cols.now a.s.now a.cursor.at (length a.out.now) in
    let t = copying_refused a.cols.now a.s.now a.cursor.at a.out.now _
    (normal_long (columns_told [] a.cols.now) a.s.now a.cursor.at (length a.out.now) (needs_told c.in_ok-row.row) c.in_ok-row.row.next.at
    (c.in_ok-row.ensures []) c.if-out-row.true) in
    record {
      answer = λ b. t.0 ∙ ap (map_read length) (names b);
      room = λ b. t.1 ∙ ap (λ (r : Read (List ℕ)). room_after_read (λ (l : List ℕ). l) r a.out.now) (names b);
    }

-- the normal form
form : (c : Else-out-row) →
    let a = c.args in
    let x = answer a.cols.now a.s.now a.cursor.at a.out.now in
    (j : List ℕ) × (x ≡ took j c.in_ok-row.row.next.at) × (took c.in_ok-row.row.normal c.in_ok-row.row.next.at ≡ map_read length x)
form c =
    let a = c.args in
    normal_fits (columns_told [] a.cols.now) a.s.now a.cursor.at (length a.out.now) (needs_told c.in_ok-row.row) c.in_ok-row.row.next.at
    (c.in_ok-row.ensures []) c.if-out-row.false

pub loop-c-init : goal.loop-c-init
loop-c-init c =
    let a = c.args in
    λ j n h. copying_begins a.cols.now a.s.now a.cursor.at a.out.now (took j n) _ h c.open_run-run.ensures

pub normal_on-run-requires : goal.normal_on-run-requires
normal_on-run-requires c =
    let a = c.args in
    let f = form (goal.at.normal_on-run-requires c).Else-out-row in
    copying_asks a.cols.now a.s.now a.cursor.at a.out.now f.0 c.in_ok-row.row.next.at c.loop-c.c-index c.loop-c.run c.loop-c.out _
    c.loop-c-test.true (c.loop-c.invariant f.0 _ f.1) (get_or_default a.cols.now c.loop-c.c-index _ no_column c.loop-c-test.true)

pub loop-c-preserved : goal.loop-c-preserved
loop-c-preserved c =
    let a = c.args in
    let same : length c.normal_on-run.new.out ≡ length a.out.now = c.normal_on-run.auto.out ∙ c.loop-c.auto.out in
    λ j n h.
    copying_next a.cols.now a.s.now a.cursor.at a.out.now j n c.loop-c.c-index c.loop-c.run _ c.loop-c.out _ _
    c.loop-c-test.true (c.loop-c.invariant j n h) (get_or_default a.cols.now c.loop-c.c-index _ no_column c.loop-c-test.true) same c.normal_on-run.ensures

-- behind the last turn
last : (c : After-loop-c) (j : List ℕ) (n : ℕ) →
    let a = c.args in
    answer a.cols.now a.s.now a.cursor.at a.out.now ≡ took j n
    → Copying a.cols.now a.s.now a.cursor.at a.out.now j n (length a.cols.now) c.loop-c.run c.loop-c.out
last c j n h =
    let e : c.loop-c.c-index ≡ length c.args.cols.now = omega arith in
    rw e at (c.loop-c.invariant j n h)

pub close_run-requires : goal.close_run-requires
close_run-requires c =
    let a = c.args in
    let f = form (goal.at.close_run-requires c).Else-out-row in
    copying_closes a.cols.now a.s.now a.cursor.at a.out.now (took f.0 c.in_ok-row.row.next.at) c.loop-c.run c.loop-c.out
    (last (goal.at.close_run-requires c).After-loop-c f.0 _ f.1)

pub returns : goal.returns
returns c =
    let a = c.args in
    let f = form (goal.at.returns c).Else-out-row in
    let names = any_names a.cols.now a.s.now a.cursor.at (length a.out.now) in record {
      answer = λ b. f.2 ∙ ap (map_read length) (names b);
      room = λ b.
          copying_ends a.cols.now a.s.now a.cursor.at a.out.now (took f.0 c.in_ok-row.row.next.at) c.loop-c.run c.loop-c.out _
          (last (goal.at.returns c).After-loop-c f.0 _ f.1) c.close_run.ensures.1
          ∙ ap (λ (r : Read (List ℕ)). room_after_read (λ (l : List ℕ). l) r a.out.now) (sym f.1 ∙ names b);
    }
