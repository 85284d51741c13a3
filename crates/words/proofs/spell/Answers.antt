-- One byte more: two digits more.
use Rattle.std.proofs.Common.{rules, arith, ◌≡◌, ◌+◌, [], ◌++◌, take, get_or}
use Rattle.std.proofs.lemmas.List.{take_more, flat_map_more}
use Rattle.words.specs.Hex.{two_digits, hex_text}
use Rattle.words.proofs.Spelled.{ascii}
use Rattle.words.proofs.spell.Goals as goal

pub loop-b-preserved : goal.loop-b-preserved
loop-b-preserved c =
    let s = c.args.s.now in
    let i = c.loop-b.b-index in
    let e : hex_text (take i s) ++ two_digits (get_or s i 0) ≡ hex_text (take (i + 1) s) =
    rw (take_more s i 0 c.loop-b-test.true) (flat_map_more two_digits [] (take i s) (get_or s i 0)) in
    (omega (arith, c.loop-b.invariant.0, c.put-at.ensures.within), search rules, rw (c.put-at.ensures.digits, c.loop-b.invariant.2) e)

pub returns-clause-ascii : goal.returns-clause-ascii
returns-clause-ascii c = ascii c.args.s.now (λ i. omega (arith, c.type_inv.s i))
