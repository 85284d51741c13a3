-- `value_write::write_in` meets its contract: the size, the room, then the bytes. Assumes nothing.
use lib.Seq.{length-take-le}
use Rattle.format.specs.Value.{write_family}
use Rattle.value_kind.specs.Told.{family_told, value_told}
use Rattle.wire.proofs.Exit.{exit_is}
use Rattle.wire.proofs.Writing.{refused_before, sized-short, sized-written, front-filled}
use Rattle.value_write.proofs.write_in.Goals as goal

pub returns-in_err-n : goal.returns-in_err-n
returns-in_err-n c =
    let a = c.args in
    let all = refused_before (write_family a.declared (family_told a.f) (value_told a.buffer.now a.v)) a.out.now _ c.in_err-n.ensures in
    rw (exit_is _ _ c.from_residual.ensures.1) record {
      answer = all.0;
      room = all.1;
    }

pub returns-then-out-n : goal.returns-then-out-n
returns-then-out-n c =
    let a = c.args in
    let all = sized-short a.out.now c.in_ok-n.n (write_family a.declared (family_told a.f) (value_told a.buffer.now a.v))
    c.in_ok-n.ensures c.if-out-n.true in record {
      answer = all.0;
      room = all.1;
    }

pub fill-requires : goal.fill-requires
fill-requires c = rw (length-take-le _ c.args.out.now c.if-out-n.false) c.in_ok-n.ensures

pub returns : goal.returns
returns c =
    let a = c.args in
    let k = c.in_ok-n in
    let after = front-filled (write_family a.declared (family_told a.f) (value_told a.buffer.now a.v)) a.out.now _ k.n k.ensures c.fill.ensures in
    let all = sized-written a.out.now k.n (write_family a.declared (family_told a.f) (value_told a.buffer.now a.v)) _ k.ensures
    c.if-out-n.false after in record {
      answer = all.0;
      room = all.1;
    }
