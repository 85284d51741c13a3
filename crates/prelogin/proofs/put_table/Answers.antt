-- `prelogin::put_table` meets its contract: four runs of stores are one. Assumes nothing.
use Rattle.prelogin.proofs.Stored.{table_stored}
use Rattle.prelogin.proofs.put_table.Goals as goal

pub returns : goal.returns
returns c =
    let a = c.args in
    rw (
      c.put_entry-4.ensures,
      c.put_entry-3.ensures,
      c.put_entry-2.ensures,
      c.put_entry.ensures,
    )
    (table_stored a.out.now a.start)
