-- `board_value::written` meets its contract: numbers that are a value, which the layer below writes. Assumes nothing.
use mathlib.Core.Path.{sym, ap, subst}
use mathlib.Core.List.{List}
use Prim.Native.Nat.{ℕ}
use Rattle.format.specs.Answer.{Answer, wrote}
use Rattle.wire.specs.Told.{answer_told}
use Rattle.wire.proofs.Exit.{exit_is}
use Rattle.wire.proofs.Writing.{Leaves, refused_before}
use Rattle.board_value.proofs.Laws.{typed_is, typed_not}
use Rattle.board_value.proofs.written.Goals as goal

pub returns : goal.returns
returns c =
    let a = c.args in
    let typed = typed_is a.value.now a.buffer.now a.column.now _ _ c.column_at-c.ensures c.value_at-v.ensures (sym c.in_ok-judge_value.ensures) in
    let w = c.write_value in
    let all = subst (λ (x : Answer (List ℕ)). Leaves (answer_told w.result) w.new.out x a.out.now) typed (w.ensures.answer, w.ensures.room) in
    record {
      answer = all.0;
      room = all.1;
    }

pub returns-in_err-judge_value : goal.returns-in_err-judge_value
unfolding wrote
returns-in_err-judge_value c =
    let a = c.args in
    let all = refused_before _ a.out.now _ (ap wrote (typed_not a.value.now a.buffer.now a.column.now _ c.in_err-judge_value.ensures)) in
    record {
      answer = rw (exit_is _ _ c.from_residual.ensures.1) all.0;
      room = all.1;
    }
