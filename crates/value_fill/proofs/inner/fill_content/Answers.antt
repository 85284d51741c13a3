-- `value_fill::inner::fill_content` meets its contract: as much content as there is room. Assumes nothing.
use mathlib.Core.Path.{refl}
use native.Mathlib.Omega.{arith}
use Rattle.format.specs.Answer.{gives}
use Rattle.format.specs.Text.{text_in}
use Rattle.wire.proofs.Writing.{count_is, sized_fits, leaves_none, copied}
use Rattle.value_fill.proofs.inner.fill_content.Goals as goal

pub copy-requires : goal.copy-requires
copy-requires c = omega (arith, count_is (gives c.args.s.now) _ c.args.s.now (rw c.in-Binary.is at c.requires) refl)

pub write_utf16-requires : goal.write_utf16-requires
write_utf16-requires c = sized_fits c.args.out.now _ (text_in c.args.s.now) (rw c.in-String.is at c.requires) (omega arith)

pub returns-in-Binary : goal.returns-in-Binary
returns-in-Binary c =
    rw c.in-Binary.is
    (copied c.args.s.now c.args.out.now _ (rw c.in-Binary.is at c.requires) c.copy.ensures)

pub returns-in-String : goal.returns-in-String
returns-in-String c =
    rw c.in-String.is
    (leaves_none (text_in c.args.s.now) c.args.out.now _ (rw c.in-String.is at c.requires)
    c.write_utf16.ensures)
