-- `text::turn` meets its contract: the size pass has found every refusal but the room's, so the pass that writes fills the room. Assumes nothing.
use Rattle.wire.proofs.Exit.{exit_is}
use Rattle.wire.proofs.Writing.{refused_before, sized-short, sized_fits, sized-written}
use Rattle.text_put.specs.Turned.{turned}
use Rattle.text.proofs.turn.Goals as goal

pub returns-in_err-n : goal.returns-in_err-n
returns-in_err-n g c =
    let a = c.args in
    let p = refused_before (turned g.F.TextForm.UNIT g.F.TextForm.char g.T.TextForm.spell a.s.now) a.out.now _ c.in_err-n.ensures in
    rw (exit_is _ _ c.from_residual.ensures.1) record {
      answer = p.0;
      room = p.1;
    }

pub returns-then-out-n : goal.returns-then-out-n
returns-then-out-n g c =
    let p = sized-short c.args.out.now c.in_ok-n.n _ c.in_ok-n.ensures c.if-out-n.true in record {
      answer = p.0;
      room = p.1;
    }

pub write-requires : goal.write-requires
write-requires g c = sized_fits c.args.out.now c.in_ok-n.n _ c.in_ok-n.ensures c.if-out-n.false

pub returns : goal.returns
returns g c =
    let p = sized-written c.args.out.now c.in_ok-n.n _ _ c.in_ok-n.ensures c.if-out-n.false c.write.ensures in record {
      answer = p.0;
      room = p.1;
    }
