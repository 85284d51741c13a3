-- `column_size::size_of` meets its contract: the parts one behind another. Assumes nothing.
use native.Mathlib.Omega.{arith}
use Rattle.column_type.specs.Told.{type_told, column_told}
use Rattle.column_type.proofs.WriteLaws.{length_width_lem, length-column}
use Rattle.column_size.proofs.size_of.Goals as goal

pub overflow_add-result : goal.overflow_add-result
overflow_add-result c = omega (arith, length_width_lem (type_told c.args.c.ty), c.length_width.ensures)

pub overflow_add-result-2 : goal.overflow_add-result-2
overflow_add-result-2 c = omega (arith, length_width_lem (type_told c.args.c.ty), c.length_width.ensures, c.digits_size.ensures.1)

pub overflow_add-result-3 : goal.overflow_add-result-3
overflow_add-result-3 c =
    omega (
      arith,
      length_width_lem (type_told c.args.c.ty),
      c.length_width.ensures,
      c.digits_size.ensures.1,
      c.collation_size.ensures.1,
    )

pub overflow_add-result-4 : goal.overflow_add-result-4
overflow_add-result-4 c =
    omega (
      arith,
      length_width_lem (type_told c.args.c.ty),
      c.length_width.ensures,
      c.digits_size.ensures.1,
      c.collation_size.ensures.1,
      c.schema_size.ensures.1,
    )

pub returns : goal.returns
returns c =
    let a = c.args in
    rw (
      length-column (column_told a.names.now a.c),
      c.length_width.ensures,
      c.digits_size.ensures.0
          a.c.precision a.c.scale,
      c.collation_size.ensures.0,
      c.schema_size.ensures.0,
    )
