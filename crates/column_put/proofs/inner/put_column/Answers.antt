-- `column_put::inner::put_column` meets its contract: five runs of stores are one. Assumes nothing.
use native.Mathlib.Omega.{arith}
use Rattle.column_type.specs.Told.{type_told, column_told}
use Rattle.column_type.proofs.WriteLaws.{length_width_lem, length-column, column_stored}
use Rattle.column_put.proofs.inner.put_column.Goals as goal

pub put_byte-requires : goal.put_byte-requires
put_byte-requires c =
    let a = c.args in
    let l = length-column (column_told a.names.now a.c) in
    omega (arith, l, c.requires.1)

pub put_low-requires : goal.put_low-requires
put_low-requires c =
    let a = c.args in
    let l = length-column (column_told a.names.now a.c) in
    omega (arith, l, c.requires.1, c.length_width-w.ensures)

pub overflow_add-w : goal.overflow_add-w
overflow_add-w c =
    let a = c.args in
    let l = length-column (column_told a.names.now a.c) in
    omega (arith, l, c.requires.1, c.length_width-w.ensures, length_width_lem (type_told a.c.ty))

pub put_digits-second-requires : goal.put_digits-second-requires
put_digits-second-requires c =
    let a = c.args in
    let l = length-column (column_told a.names.now a.c) in
    omega (arith, l, c.requires.1, c.length_width-w.ensures)

pub put_collation-third-requires : goal.put_collation-third-requires
put_collation-third-requires c =
    let a = c.args in
    let l = length-column (column_told a.names.now a.c) in
    omega (arith, l, c.requires.1, c.length_width-w.ensures, c.put_digits-second.ensures.next)

pub put_schema-requires : goal.put_schema-requires
put_schema-requires c =
    let l = length-column (column_told c.args.names.now c.args.c) in
    let width = c.length_width-w.ensures in
    let digits = c.put_digits-second.ensures.next in
    let collation = c.put_collation-third.ensures.next in
    (c.requires.0, omega (arith, l, c.requires.1, width, digits, collation))

pub returns : goal.returns
returns c =
    let a = c.args in
    rw (
      c.put_schema.ensures,
      c.put_collation-third.ensures.room,
      c.put_digits-second.ensures.room,
      c.put_low.ensures,
      c.put_byte.ensures,
      c.from.ensures,
    )
    (column_stored a.out.now (column_told a.names.now a.c) c.length_width-w.result c.put_digits-second.result
    c.put_collation-third.result c.length_width-w.ensures c.put_digits-second.ensures.next
    c.put_collation-third.ensures.next)
