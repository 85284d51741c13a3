-- `board_packet::header_read` meets its contract: behind the end refusal 1, else the header that the rest begins with. Assumes nothing.
use mathlib.Core.Path.{refl, sym, ap, ◌∙◌}
use mathlib.Core.List.{List}
use Prim.Native.Nat.{ℕ}
use Rattle.lists.proofs.Lent.{rest_is}
use Rattle.format.specs.Answer.{Read, missing, further, map_read}
use Rattle.format.specs.Header.{read_header}
use Rattle.format.proofs.Place.{at_behind, at_inside}
use Rattle.board_answer.specs.Told.{counted, place, after}
use Rattle.board_answer.proofs.Laws.{reads_stops}
use Rattle.board_packet.specs.Plain.{header_numbers}
use Rattle.board_packet.proofs.header_read.Goals as goal

pub returns-then-bytes-at : goal.returns-then-bytes-at
returns-then-bytes-at c =
    let a = c.args in
    let all = reads_stops _ _ _ a.fields.now missing c.refused.ensures refl
    (sym (ap (map_read header_numbers) (at_behind read_header a.bytes.now a.at c.if-bytes-at.true))) in record {
      answer = all.0;
      room = all.1;
    }

pub returns : goal.returns
returns c =
    let a = c.args in
    let s = a.bytes.now in
    let e = ap (λ (l : List ℕ). further a.at (read_header l)) (rest_is s a.at) ∙ sym (at_inside read_header s a.at c.if-bytes-at.false) in
    let m = ap (map_read header_numbers) e in
    record {
      answer = c.header_in.ensures.answer ∙ ap (λ (x : Read (List ℕ)). counted (place x)) m;
      room = c.header_in.ensures.room ∙ ap (λ (x : Read (List ℕ)). after x a.fields.now) m;
    }
