-- A part more: its digits are ASCII, and so are written as text, behind those of the parts before it.
use Rattle.std.proofs.Common.{rules, ◌≡◌, List, ℕ, ◌++◌, sym, ap, ◌∙◌, append_assoc}
use Rattle.std.proofs.Output.{has_written_append}
use Rattle.std.proofs.lemmas.Grind.{flat_map-append}
use Rattle.std.proofs.lemmas.Str.{IsUtf8-from_ascii}
use Rattle.std.specs.Slice.Iter.{chunks_rest}
use Rattle.words.specs.Hex.{two_digits, hex_text}
use Rattle.words.proofs.HexDisplay.fmt.Goals as goal

pub unreachable-requires : goal.unreachable-requires
unreachable-requires g c =
    c.in_default.ensures.cases.0 (rw c.spell-n.ensures.digits (IsUtf8-from_ascii (hex_text c.in-Some.part.now) c.spell-n.ensures.ascii))

pub loop-part-preserved : goal.loop-part-preserved
loop-part-preserved g c =
    let part = c.in-Some.part.now in
    let steps = c.in-Some.ensures.steps in
    let rest = chunks_rest c.next.new.self in
    let shown : c.in-Ok.letters.now ≡ hex_text part = c.in-Ok.ensures.cases.0 ∙ c.spell-n.ensures.digits in (
      search rules,
      tt,
      steps.0 ∙ c.loop-part.invariant.2,
      λ plain.
          let so_far = c.loop-part.invariant.3 plain in (
            so_far.0 ++ c.in-Ok.letters.now,
            has_written_append _ _ _ _ _ _ so_far.1 (search rules),
            append_assoc so_far.0 _ _
                ∙ ap (λ (t : List ℕ). so_far.0 ++ t)
                (rw shown (sym (flat_map-append two_digits part rest) ∙ ap hex_text (sym steps.1.0)))
                ∙ so_far.2,
          ),
    )
