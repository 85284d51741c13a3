-- `plp_join::join_plp` meets its contract: behind the end refusal 1, else the value that the rest begins with. Assumes nothing.
use Rattle.std.specs.Prelude.{Option}
use mathlib.Core.Path.{ap, ◌∙◌}
use mathlib.Core.List.{List}
use Prim.Native.Nat.{ℕ}
use Rattle.lists.proofs.Lent.{rest_is}
use Rattle.format.specs.Answer.{Read, map_read, room_after_read}
use Rattle.format.specs.Plp.{plp_copied, room_after_join}
use Rattle.plp_join.specs.Told.{counted}
use Rattle.plp_join.proofs.Joining.{join_behind, join_inside}
use Rattle.plp_join.proofs.join_plp.Goals as goal

pub returns-then-s-at : goal.returns-then-s-at
returns-then-s-at c =
    let a = c.args in
    let all = join_behind a.text a.s.now a.from.at a.out.now c.if-s-at.true in record {
      answer = all.0;
      room = all.1;
    }

pub returns : goal.returns
unfolding room_after_join
returns c =
    let a = c.args in
    let e = join_inside a.text a.s.now a.from.at a.out.now _ c.if-s-at.false (rest_is a.s.now a.from.at) in
    record {
      answer = c.join_in.ensures.answer ∙ ap (map_read counted) e;
      room = c.join_in.ensures.room ∙ ap (λ (x : Read (Option (List ℕ))). room_after_read plp_copied x a.out.now) e;
    }
