-- `untyped_write::write_untyped` meets its contract: the size, the room, then the bytes. Assumes nothing.
use lib.Seq.{length-take-le}
use Rattle.format.specs.Value.{write_untyped}
use Rattle.value_kind.specs.Told.{value_told}
use Rattle.wire.proofs.Exit.{exit_is}
use Rattle.wire.proofs.Writing.{refused_before, sized-short, sized-written, front-filled}
use Rattle.untyped_write.proofs.write_untyped.Goals as goal

pub returns-in_err-m : goal.returns-in_err-m
returns-in_err-m c =
    let a = c.args in
    let all = refused_before (write_untyped (value_told a.buffer.now a.v)) a.out.now _ c.in_err-m.ensures in
    rw (exit_is _ _ c.from_residual.ensures.1) record {
      answer = all.0;
      room = all.1;
    }

pub returns-then-out-m : goal.returns-then-out-m
returns-then-out-m c =
    let a = c.args in
    let all = sized-short a.out.now c.in_ok-m.m (write_untyped (value_told a.buffer.now a.v))
    c.in_ok-m.ensures c.if-out-m.true in record {
      answer = all.0;
      room = all.1;
    }

pub fill_untyped-requires : goal.fill_untyped-requires
fill_untyped-requires c = rw (length-take-le _ c.args.out.now c.if-out-m.false) c.in_ok-m.ensures

pub returns : goal.returns
returns c =
    let a = c.args in
    let k = c.in_ok-m in
    let after = front-filled (write_untyped (value_told a.buffer.now a.v)) a.out.now _ k.m k.ensures c.fill_untyped.ensures in
    let all = sized-written a.out.now k.m (write_untyped (value_told a.buffer.now a.v)) _ k.ensures
    c.if-out-m.false after in record {
      answer = all.0;
      room = all.1;
    }
