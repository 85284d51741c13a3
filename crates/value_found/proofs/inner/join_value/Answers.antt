-- `value_found::inner::join_value` meets its contract: what the join says of the chunks, told of the value, and the room behind what was copied
-- before. Assumes nothing.
use mathlib.Core.Path.{◌≡◌, sym, ap, ◌∙◌}
use mathlib.Core.Bool.{true}
use mathlib.Core.List.{◌++◌}
use lib.ListN.{take}
use Rattle.lists.proofs.Lent.{rest_is, lent_rest}
use Rattle.format.specs.Answer.{map_read}
use Rattle.format.specs.Descriptor.{Column}
use Rattle.format.specs.Plp.{read_plp}
use Rattle.format.specs.Value.{is_text, content_value, is_plp}
use Rattle.wire.proofs.Exit.{exit_is}
use Rattle.value_kind.specs.Told.{content_kind_told}
use Rattle.value_found.proofs.Finding.{join_told, same_found, said, Answers, joins_lent}
use Rattle.value_found.proofs.inner.join_value.Goals.{After-join_in}
use Rattle.value_found.proofs.inner.join_value.Goals as goal

-- what the join says, told of a value of the column d
answers : (c : After-join_in) (d : Column) → is_plp d ≡ true →
    let a = c.args in
    let k = content_kind_told a.k in
    Answers d a.at a.copied a.out.now (join_told k a.copied c.join_in.result)
    (take a.copied a.out.now ++ said c.join_in.ensures.room) (map_read (content_value k) (read_plp (is_text k) a.rest.now))
answers c d t =
    let a = c.args in
    joins_lent d a.at a.copied a.out.now t (content_kind_told a.k) _ a.rest.now _ _ _ c.is_text-text.ensures
    (rest_is a.out.now a.copied) c.join_in.ensures.answer c.join_in.ensures.room

pub returns-in_err-next : goal.returns-in_err-next
returns-in_err-next c =
    let a = c.args in
    let x = exit_is _ _ c.from_residual.ensures.1 in
    let w = ap (join_told (content_kind_told a.k) a.copied) c.in_err-next.was in
    let l = lent_rest a.out.now _ a.copied in
    record {
      told = λ d t. rw x (sym w ∙ (answers (goal.at.returns-in_err-next c).After-join_in d t).answered);
      canonical = rw x tt;
      room = λ d t. l ∙ (answers (goal.at.returns-in_err-next c).After-join_in d t).stays;
    }

pub returns-in-None-default : goal.returns-in-None-default
returns-in-None-default c =
    let a = c.args in
    let w = rw c.in-None-default.is-0 at (ap (join_told (content_kind_told a.k) a.copied) c.in_ok-next.was) in
    let l = lent_rest a.out.now _ a.copied in
    record {
      told = λ d t. sym w ∙ (answers (goal.at.returns-in-None-default c).After-join_in d t).answered;
      canonical = tt;
      room = λ d t. l ∙ (answers (goal.at.returns-in-None-default c).After-join_in d t).stays;
    }

pub returns-in-Some-default : goal.returns-in-Some-default
returns-in-Some-default c =
    let a = c.args in
    let w = rw c.in-Some-default.is-0 at (ap (join_told (content_kind_told a.k) a.copied) c.in_ok-next.was) in
    let l = lent_rest a.out.now _ a.copied in
    record {
      told = λ d t. same_found _ c.content_found-found.ensures.told ∙ (sym w ∙ (answers (goal.at.returns-in-Some-default c).After-join_in d t).answered);
      canonical = c.content_found-found.ensures.canonical;
      room = λ d t. l ∙ (answers (goal.at.returns-in-Some-default c).After-join_in d t).stays;
    }
