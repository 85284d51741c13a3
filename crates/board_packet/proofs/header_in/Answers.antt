-- `board_packet::header_in` meets its contract: eight bytes, then type and status, then the six numbers. Assumes nothing.
use mathlib.Core.Path.{◌≡◌, refl, sym, ap, ◌∙◌}
use Prim.Native.Nat.{ℕ}
use Rattle.format.specs.Answer.{Read, missing, unknown, further, map_read}
use Rattle.format.specs.Header.{Header}
use Rattle.header.proofs.Laws.{header-short}
use Rattle.board_answer.proofs.Laws.{reads_took, reads_stops}
use Rattle.board_packet.specs.Plain.{header_numbers}
use Rattle.board_packet.proofs.Laws.{reads_known, reads_unknown}
use Rattle.board_packet.proofs.header_in.Goals as goal

-- what was read, told at its place
placed : (at : ℕ) (x y : Read Header) → x ≡ y → map_read header_numbers (further at y) ≡ map_read header_numbers (further at x)
placed at x y e = sym (ap (λ (z : Read Header). map_read header_numbers (further at z)) e)

pub returns-then-rest-lt8 : goal.returns-then-rest-lt8
returns-then-rest-lt8 c =
    let a = c.args in
    let all = reads_stops _ _ _ a.fields.now missing c.refused.ensures refl (placed a.at _ _ (header-short a.rest.now c.if-rest-lt8.true)) in record {
      answer = all.0;
      room = all.1;
    }

pub returns : goal.returns
returns c =
    let a = c.args in
    let s = a.rest.now in
    let k = reads_known s c.if-rest-lt8.false (sym c.is_known.ensures ∙ c.if-not-is_known.false) in
    let all = reads_took _ _ _ a.fields.now _ _ c.at.ensures c.numbers.ensures (placed a.at _ _ k) in record {
      answer = all.0;
      room = all.1;
    }

pub returns-then-not-is_known : goal.returns-then-not-is_known
returns-then-not-is_known c =
    let a = c.args in
    let s = a.rest.now in
    let k = reads_unknown s c.if-rest-lt8.false (sym c.is_known.ensures ∙ c.if-not-is_known.true) in
    let all = reads_stops _ _ _ a.fields.now unknown c.unknown.ensures refl (placed a.at _ _ k) in record {
      answer = all.0;
      room = all.1;
    }
