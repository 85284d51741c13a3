-- `column_write::write_column` meets its contract: the size's refusal, refusal 4, or the bytes. Assumes nothing.
use mathlib.Core.Path.{◌∙◌}
use native.Mathlib.Omega.{arith}
use Rattle.format.specs.Descriptor.{column_bytes, write_column}
use Rattle.wire.proofs.Exit.{exit_is}
use Rattle.wire.proofs.Writing.{refused_before, sized-short, sized-written, front_stored}
use Rattle.column_type.specs.Told.{column_told}
use Rattle.column_type.proofs.WriteLaws.{sized}
use Rattle.column_write.proofs.write_column.Goals as goal

pub returns-in_err-n : goal.returns-in_err-n
returns-in_err-n c =
    let all = refused_before (write_column (column_told c.args.names.now c.args.c)) c.args.out.now _ c.in_err-n.ensures in
    rw (exit_is _ _ c.from_residual.ensures.1) record {
      answer = all.0;
      room = all.1;
    }

pub returns-then-out-n : goal.returns-then-out-n
returns-then-out-n c =
    let all = sized-short c.args.out.now c.in_ok-n.n (write_column (column_told c.args.names.now c.args.c)) c.in_ok-n.ensures c.if-out-n.true in record {
      answer = all.0;
      room = all.1;
    }

pub put_column-requires : goal.put_column-requires
put_column-requires c =
    let z = sized (column_told c.args.names.now c.args.c) c.in_ok-n.n c.in_ok-n.ensures in
    (z.1, omega (arith, z.2))

pub returns : goal.returns
returns c =
    let out = c.args.out.now in
    let n = c.in_ok-n.n in
    let z = sized (column_told c.args.names.now c.args.c) n c.in_ok-n.ensures in
    let stored = c.put_column.ensures ∙ front_stored (column_bytes (column_told c.args.names.now c.args.c)) out (omega (arith, z.2)) in
    let all = sized-written out n (write_column (column_told c.args.names.now c.args.c)) _ c.in_ok-n.ensures c.if-out-n.false (rw z.0 stored) in record {
      answer = all.0;
      room = all.1;
    }
