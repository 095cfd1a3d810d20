use Rattle.std.proofs.Common.{rules, sym, subst}
use Rattle.dk_pump.specs.declared.putting.PutRefused.TheVariants as refused
use Rattle.dk_types.specs.Faults.{HasRisen}
use Rattle.dk_pump.specs.Writing.{ArePut}
use Rattle.dk_pump.proofs.Ended.{err_is}
use Rattle.dk_pump.proofs.WrittenOn.{part_of_all, part_of_frame}
use Rattle.dk_pump.proofs.putting.put_frames.Goals as goal

pub returns-in_err-frame : goal.returns-in_err-frame
returns-in_err-frame g c = record {
  put = subst (λ r. ArePut r (g.K.Sink.contents c.args.sink.now) (g.K.Sink.contents c.loop-out.sink) (g.K.Sink.counted c.args.sink.now) (g.K.Sink.counted c.loop-out.sink) c.args.outs.now) (sym (err_is c.from_residual.result refused.NoMemory c.from_residual.ensures.1))
      (part_of_all (g.K.Sink.contents c.args.sink.now) (g.K.Sink.contents c.loop-out.sink) c.args.outs.now c.loop-out.out-index c.loop-out.invariant.put, c.loop-out.invariant.count);
}

pub returns-in_err-put : goal.returns-in_err-put
returns-in_err-put g c = record {
  put = subst (λ r. ArePut r (g.K.Sink.contents c.args.sink.now) (g.K.Sink.contents c.put.new.self) (g.K.Sink.counted c.args.sink.now) (g.K.Sink.counted c.put.new.self) c.args.outs.now) (sym (err_is c.from_residual-in_err-put.result refused.Failed c.from_residual-in_err-put.ensures.1)) (
    part_of_frame (g.K.Sink.contents c.args.sink.now) (g.K.Sink.contents c.loop-out.sink) (g.K.Sink.contents c.put.new.self) c.args.outs.now c.loop-out.out-index c.out-item.result c.as_slice.result.now c.loop-out-test.true c.out-item.is (search rules) c.loop-out.invariant.put c.in_err-put.ensures.bytes,
    subst (λ n. HasRisen n (g.K.Sink.counted c.put.new.self)) c.loop-out.invariant.count c.in_err-put.ensures.cause,
  );
}
