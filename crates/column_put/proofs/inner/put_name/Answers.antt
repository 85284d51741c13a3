-- `column_put::inner::put_name` meets its contract: the count, and the units behind it. Assumes nothing.
use mathlib.Core.Path.{refl}
use Rattle.column_type.proofs.WriteLaws.{name_stored}
use Rattle.column_put.proofs.inner.put_name.Goals as goal

pub returns : goal.returns
returns c =
    let a = c.args in
    record {
      room = rw (c.paste.ensures, c.put_low.ensures)
          (name_stored a.out.now a.names.now a.at a.w a.n c.requires.0 c.requires.1);
      next = refl;
    }
