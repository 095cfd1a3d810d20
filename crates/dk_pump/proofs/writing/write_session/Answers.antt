use Rattle.std.proofs.Common.{◌∷◌, [], Ok, Err, refl, subst, ◌∙◌, false}
use Rattle.dk_types.specs.Faults.{HasRisen}
use Rattle.dk_types.specs.declared.event.Event.TheVariants as event
use Rattle.dk_host.specs.Calls.{Entered}
use Rattle.dk_pump.specs.declared.limits.TheConstants.{HAND_MOST_COUNT}
use Rattle.dk_pump.specs.declared.putting.PutRefused.TheVariants as refused
use Rattle.dk_pump.specs.Reading.{Disconnects}
use Rattle.dk_pump.specs.Writing.{ArePut, HandsOn}
use Rattle.dk_pump.proofs.Entering.{enters_one}
use Rattle.dk_pump.proofs.WrittenOn.{writing_first, writing_more, writing_done, gives_up, gives_up_early, goes_without}
use Rattle.dk_pump.proofs.writing.write_session.Goals as goal

pub loop-init : goal.loop-init
loop-init g c = record { number = refl; writing = writing_first g.W.Hosting.opened g.J.Naming.name.passes c.args.pass.now.number c.args.conn (g.K.Sink.contents c.args.sink.now) (g.K.Sink.counted c.args.sink.now) c.args.pass.now.front }

pub returns-in_default-clause-writes : goal.returns-in_default-clause-writes
returns-in_default-clause-writes g c =
    gives_up_early g.W.Hosting.opened g.J.Naming.name.passes c.args.pass.now.number c.args.conn (g.K.Sink.contents c.args.sink.now) (g.K.Sink.contents c.loop.sink) (g.K.Sink.counted c.args.sink.now) (g.K.Sink.counted c.loop.sink) c.args.pass.now.front c.loop.pass.front c.loop.invariant.writing c.hand.new.pass.front c.disconnect.new.pass.front
    (enters_one g.W.Hosting.opened g.J.Naming.name.passes c.args.pass.now.number [] c.loop.pass.front c.hand.new.pass.front (subst (λ n. Entered g.W.Hosting.opened n [] c.loop.pass.front c.hand.new.pass.front) c.loop.invariant.number c.in_default.ensures.entered) c.in_default.ensures.named)
    (subst (λ n. Disconnects g.W.Hosting.opened g.W.Hosting.keeps g.J.Naming.name.passes n c.args.conn false c.hand.new.pass.front c.disconnect.new.pass.front) (c.in_default.ensures.number ∙ c.loop.invariant.number) c.disconnect.ensures.posted)

pub returns-in-Err-Failed-clause-writes : goal.returns-in-Err-Failed-clause-writes
returns-in-Err-Failed-clause-writes g c =
    let put : ArePut (Err refused.Failed) (g.K.Sink.contents c.loop.sink) (g.K.Sink.contents c.put_frames.new.sink) (g.K.Sink.counted c.loop.sink) (g.K.Sink.counted c.put_frames.new.sink) c.in-Ok.handed.outs = subst (λ x. ArePut (Err x) (g.K.Sink.contents c.loop.sink) (g.K.Sink.contents c.put_frames.new.sink) (g.K.Sink.counted c.loop.sink) (g.K.Sink.counted c.put_frames.new.sink) c.in-Ok.handed.outs) c.in-Err-Failed.field-0-is (subst (λ outs. ArePut (Err c.in-Err-Failed.field-0) (g.K.Sink.contents c.loop.sink) (g.K.Sink.contents c.put_frames.new.sink) (g.K.Sink.counted c.loop.sink) (g.K.Sink.counted c.put_frames.new.sink) outs) c.as_slice.ensures c.in-Err-Failed.ensures.put) in
    goes_without g.W.Hosting.opened g.J.Naming.name.passes c.args.pass.now.number c.args.conn (g.K.Sink.contents c.args.sink.now) (g.K.Sink.contents c.loop.sink) (g.K.Sink.counted c.args.sink.now) (g.K.Sink.counted c.loop.sink) c.args.pass.now.front c.loop.pass.front c.loop.invariant.writing HAND_MOST_COUNT c.in-Ok.handed.outs c.in-Ok.handed.end c.hand.new.pass.front (enters_one g.W.Hosting.opened g.J.Naming.name.passes c.args.pass.now.number _ c.loop.pass.front c.hand.new.pass.front (subst (λ n. Entered g.W.Hosting.opened n (event.Hand n c.args.conn HAND_MOST_COUNT c.in-Ok.handed.outs c.in-Ok.handed.end ∷ []) c.loop.pass.front c.hand.new.pass.front) c.loop.invariant.number c.in-Ok.ensures.entered) c.in-Ok.ensures.named) (g.K.Sink.contents c.put_frames.new.sink) put.0 c.hand_on.result (g.K.Sink.counted c.put_frames.new.sink) c.disconnect-in-Err-Failed.new.pass.front c.hand_on.new.pass.front
    (subst (λ n. HasRisen n (g.K.Sink.counted c.put_frames.new.sink)) c.loop.invariant.writing.counts put.1)
    (subst (λ n. Disconnects g.W.Hosting.opened g.W.Hosting.keeps g.J.Naming.name.passes n c.args.conn false c.hand.new.pass.front c.disconnect-in-Err-Failed.new.pass.front) (c.in-Ok.ensures.number ∙ c.loop.invariant.number) c.disconnect-in-Err-Failed.ensures.posted)
    (subst (λ n. HandsOn g.W.Hosting.opened g.J.Naming.name.passes n c.args.conn c.in-Ok.handed.end c.hand_on.result c.disconnect-in-Err-Failed.new.pass.front c.hand_on.new.pass.front) (c.disconnect-in-Err-Failed.ensures.number ∙ c.in-Ok.ensures.number ∙ c.loop.invariant.number) c.hand_on.ensures.hands)

pub returns-in-Err-NoMemory-clause-writes : goal.returns-in-Err-NoMemory-clause-writes
returns-in-Err-NoMemory-clause-writes g c =
    let put : ArePut (Err refused.NoMemory) (g.K.Sink.contents c.loop.sink) (g.K.Sink.contents c.put_frames.new.sink) (g.K.Sink.counted c.loop.sink) (g.K.Sink.counted c.put_frames.new.sink) c.in-Ok.handed.outs = subst (λ x. ArePut (Err x) (g.K.Sink.contents c.loop.sink) (g.K.Sink.contents c.put_frames.new.sink) (g.K.Sink.counted c.loop.sink) (g.K.Sink.counted c.put_frames.new.sink) c.in-Ok.handed.outs) c.in-Err-NoMemory.field-0-is (subst (λ outs. ArePut (Err c.in-Err-NoMemory.field-0) (g.K.Sink.contents c.loop.sink) (g.K.Sink.contents c.put_frames.new.sink) (g.K.Sink.counted c.loop.sink) (g.K.Sink.counted c.put_frames.new.sink) outs) c.as_slice.ensures c.in-Err-NoMemory.ensures.put) in
    gives_up g.W.Hosting.opened g.J.Naming.name.passes c.args.pass.now.number c.args.conn (g.K.Sink.contents c.args.sink.now) (g.K.Sink.contents c.loop.sink) (g.K.Sink.counted c.args.sink.now) (g.K.Sink.counted c.loop.sink) c.args.pass.now.front c.loop.pass.front c.loop.invariant.writing HAND_MOST_COUNT c.in-Ok.handed.outs c.in-Ok.handed.end c.hand.new.pass.front (enters_one g.W.Hosting.opened g.J.Naming.name.passes c.args.pass.now.number _ c.loop.pass.front c.hand.new.pass.front (subst (λ n. Entered g.W.Hosting.opened n (event.Hand n c.args.conn HAND_MOST_COUNT c.in-Ok.handed.outs c.in-Ok.handed.end ∷ []) c.loop.pass.front c.hand.new.pass.front) c.loop.invariant.number c.in-Ok.ensures.entered) c.in-Ok.ensures.named) (g.K.Sink.contents c.put_frames.new.sink) put.0 (g.K.Sink.counted c.put_frames.new.sink) c.disconnect-in-Err-NoMemory.new.pass.front
    (subst (λ n. Disconnects g.W.Hosting.opened g.W.Hosting.keeps g.J.Naming.name.passes n c.args.conn false c.hand.new.pass.front c.disconnect-in-Err-NoMemory.new.pass.front) (c.in-Ok.ensures.number ∙ c.loop.invariant.number) c.disconnect-in-Err-NoMemory.ensures.posted)

pub returns-then-end-clause-writes : goal.returns-then-end-clause-writes
returns-then-end-clause-writes g c =
    let put : ArePut (Ok tt) (g.K.Sink.contents c.loop.sink) (g.K.Sink.contents c.put_frames.new.sink) (g.K.Sink.counted c.loop.sink) (g.K.Sink.counted c.put_frames.new.sink) c.in-Ok.handed.outs = subst (λ outs. ArePut (Ok tt) (g.K.Sink.contents c.loop.sink) (g.K.Sink.contents c.put_frames.new.sink) (g.K.Sink.counted c.loop.sink) (g.K.Sink.counted c.put_frames.new.sink) outs) c.as_slice.ensures c.in-Ok-put_frames.ensures.put in
    let last = subst (λ b. Entered g.W.Hosting.opened c.args.pass.now.number (event.Hand c.args.pass.now.number c.args.conn HAND_MOST_COUNT c.in-Ok.handed.outs b ∷ []) c.loop.pass.front c.hand.new.pass.front) c.if-end.true (subst (λ n. Entered g.W.Hosting.opened n (event.Hand n c.args.conn HAND_MOST_COUNT c.in-Ok.handed.outs c.in-Ok.handed.end ∷ []) c.loop.pass.front c.hand.new.pass.front) c.loop.invariant.number c.in-Ok.ensures.entered) in
    writing_done g.W.Hosting.opened g.J.Naming.name.passes c.args.pass.now.number c.args.conn (g.K.Sink.contents c.args.sink.now) (g.K.Sink.contents c.loop.sink) (g.K.Sink.counted c.args.sink.now) (g.K.Sink.counted c.loop.sink) c.args.pass.now.front c.loop.pass.front c.loop.invariant.writing HAND_MOST_COUNT c.in-Ok.handed.outs (g.K.Sink.contents c.put_frames.new.sink) (g.K.Sink.counted c.put_frames.new.sink) c.hand.new.pass.front last (enters_one g.W.Hosting.opened g.J.Naming.name.passes c.args.pass.now.number _ c.loop.pass.front c.hand.new.pass.front last c.in-Ok.ensures.named) put.0 put.1

pub loop-preserved : goal.loop-preserved
loop-preserved g c =
    let put : ArePut (Ok tt) (g.K.Sink.contents c.loop.sink) (g.K.Sink.contents c.put_frames.new.sink) (g.K.Sink.counted c.loop.sink) (g.K.Sink.counted c.put_frames.new.sink) c.in-Ok.handed.outs = subst (λ outs. ArePut (Ok tt) (g.K.Sink.contents c.loop.sink) (g.K.Sink.contents c.put_frames.new.sink) (g.K.Sink.counted c.loop.sink) (g.K.Sink.counted c.put_frames.new.sink) outs) c.as_slice.ensures c.in-Ok-put_frames.ensures.put in
    record {
      number = c.in-Ok.ensures.number ∙ c.loop.invariant.number;
      writing = writing_more g.W.Hosting.opened g.J.Naming.name.passes c.args.pass.now.number c.args.conn (g.K.Sink.contents c.args.sink.now) (g.K.Sink.contents c.loop.sink) (g.K.Sink.counted c.args.sink.now) (g.K.Sink.counted c.loop.sink) c.args.pass.now.front c.loop.pass.front c.loop.invariant.writing HAND_MOST_COUNT c.in-Ok.handed.outs c.in-Ok.handed.end c.hand.new.pass.front (enters_one g.W.Hosting.opened g.J.Naming.name.passes c.args.pass.now.number _ c.loop.pass.front c.hand.new.pass.front (subst (λ n. Entered g.W.Hosting.opened n (event.Hand n c.args.conn HAND_MOST_COUNT c.in-Ok.handed.outs c.in-Ok.handed.end ∷ []) c.loop.pass.front c.hand.new.pass.front) c.loop.invariant.number c.in-Ok.ensures.entered) c.in-Ok.ensures.named) (g.K.Sink.contents c.put_frames.new.sink) (g.K.Sink.counted c.put_frames.new.sink) put.0 put.1;
    }
