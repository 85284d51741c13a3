-- `plp_frame::inner::put_frame` meets its contract: the three stores leave the form of what stands between them. Assumes nothing.
use native.Mathlib.Omega.{arith}
use Rattle.plp_frame.proofs.Frame.{form-room, chunk-room, middle-count, none_framed, chunk-framed}
use Rattle.plp_frame.proofs.inner.put_frame.Goals as goal

pub overflow_sub-last : goal.overflow_sub-last
overflow_sub-last c = omega (arith, form-room c.args.out.now c.requires)

pub put_low-requires : goal.put_low-requires
put_low-requires c = omega (arith, form-room c.args.out.now c.requires)

pub put_low-requires-2 : goal.put_low-requires-2
put_low-requires-2 c = omega (arith, c.put_low.auto.out, form-room c.args.out.now c.requires)

pub returns-then-last-eq8 : goal.returns-then-last-eq8
returns-then-last-eq8 c =
    let out = c.args.out.now in
    record {
      end = omega (arith, c.if-last-eq8.true, middle-count out c.requires);
      room = rw (c.put_low-2.ensures, c.put_low.ensures) (none_framed out c.requires c.if-last-eq8.true);
    }

pub overflow_sub-last-2 : goal.overflow_sub-last-2
overflow_sub-last-2 c = omega (arith, chunk-room c.args.out.now c.requires c.if-last-eq8.false)

pub put_low-requires-3 : goal.put_low-requires-3
put_low-requires-3 c = omega (arith, c.put_low-2.auto.out, c.put_low.auto.out, form-room c.args.out.now c.requires)

pub returns : goal.returns
returns c =
    let out = c.args.out.now in
    record {
      end = omega (arith, middle-count out c.requires, chunk-room out c.requires c.if-last-eq8.false);
      room = rw (c.put_low-3.ensures, c.put_low-2.ensures, c.put_low.ensures) (chunk-framed out c.requires c.if-last-eq8.false);
    }
