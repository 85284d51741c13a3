-- The digits of the bytes so far stand at the front.
use Rattle.std.proofs.Common.{◌≡◌, ◌≤◌, ◌*◌, length, take}
use Rattle.words.specs.Hex.{hex_text}
use Rattle.words.proofs.spell.Given as goal

abbrev pub invariant-loop-b : goal.invariant-loop-b
invariant-loop-b l =
    (l.at ≤ 2 * l.b-index) × (length l.text ≡ length l.initial.text) × (take l.at l.text ≡ hex_text (take l.b-index l.s))
