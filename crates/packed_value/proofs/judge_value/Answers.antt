-- `packed_value::judge_value` meets its contract. Assumes nothing.
use mathlib.Core.Path.{sym, ◌∙◌}
use borrow.Author.Tests.{lt-ltb, le-ltb}
use lib.ListN.{length}
use Rattle.packed_value.proofs.judge_value.Goals as goal

pub returns-then-v-lt3 : goal.returns-then-v-lt3
returns-then-v-lt3 c =
    let v = c.args.v.now in
    rw (lt-ltb (length v) 3 c.if-v-lt3.true)

pub returns-then-is_value : goal.returns-then-is_value
returns-then-is_value c =
    let v = c.args.v.now in
    let three = c.at.ensures in
    let e = rw (three.kind, three.first, three.second) at (sym c.is_value.ensures ∙ c.if-is_value.true) in
    rw (le-ltb (length v) 3 c.if-v-lt3.false, e)

pub returns : goal.returns
returns c =
    let v = c.args.v.now in
    let three = c.at.ensures in
    let e = rw (three.kind, three.first, three.second) at (sym c.is_value.ensures ∙ c.if-is_value.false) in
    rw (le-ltb (length v) 3 c.if-v-lt3.false, e)
