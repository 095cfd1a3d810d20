use Rattle.std.proofs.Common.{◌≡◌, ◌&&◌, ◌++◌, ◌∷◌, [], ◌∙◌, ap, sym, subst, if◌then◌else◌, length, length-append, inl, inr, arith}
use Rattle.std.specs.Vec.Iter.{into_iter_items}
use Rattle.dk_connections.proofs.Sends.{Sending, sending_step}
use Rattle.dk_connections.proofs.connections.Connections.send_all.Goals as goal

pub loop-letter-preserved-then-closes : goal.loop-letter-preserved-then-closes
loop-letter-preserved-then-closes c =
    let before = c.args.self.now.connections in
    let after = c.send.new.self.connections in
    let outs = into_iter_items c.into_iter-letter-iterator.result in
    let rest = into_iter_items c.next.new.self in
    let shut = c.loop-letter.closed.items in
    let parts = c.into_parts-ready.ensures in
    let count = ap length c.in-Some.ensures.steps.0 in
    let longer = ap length c.push_reserved.ensures.items ∙ length-append shut (c.into_parts-ready.result.0 ∷ []) in
    record {
      sent =
          subst (Sending before after outs rest)
          ((λ i. if c.if-send.true i && c.if-closes.true i then shut ++ c.into_parts-ready.result.0 ∷ [] else shut) ∙ sym c.push_reserved.ensures.items)
          (sending_step before c.loop-letter.self.connections after outs rest (into_iter_items c.loop-letter.letter-iterator) shut c.in-Some.letter _ _ _ _ parts.conn parts.ready parts.closes
          c.in-Some.ensures.steps.0 c.loop-letter.invariant.sent c.send.ensures.linked c.send.ensures.answer c.send.ensures.alive);
      room = omega (arith, count, longer, c.push_reserved.ensures.capacity, c.loop-letter.invariant.room);
    }

pub loop-letter-preserved : goal.loop-letter-preserved
loop-letter-preserved c =
    let before = c.args.self.now.connections in
    let after = c.send.new.self.connections in
    let outs = into_iter_items c.into_iter-letter-iterator.result in
    let rest = into_iter_items c.next.new.self in
    let shut = c.loop-letter.closed.items in
    let parts = c.into_parts-ready.ensures in
    let conn = c.into_parts-ready.result.0 in
    let closes = c.into_parts-ready.result.2 in
    let count = ap length c.in-Some.ensures.steps.0 in
    let not_closed : (if c.send.result && closes then shut ++ conn ∷ [] else shut) ≡ shut =
    elim c.else-send.either [
      | inl p ↦ λ i. if p.0 i && p.1 i then shut ++ conn ∷ [] else shut
      | inr q ↦ λ i. if q i && closes then shut ++ conn ∷ [] else shut
    ]
    in
    record {
      sent =
          subst (Sending before after outs rest) not_closed
          (sending_step before c.loop-letter.self.connections after outs rest (into_iter_items c.loop-letter.letter-iterator) shut c.in-Some.letter _ _ _ _ parts.conn parts.ready parts.closes
          c.in-Some.ensures.steps.0 c.loop-letter.invariant.sent c.send.ensures.linked c.send.ensures.answer c.send.ensures.alive);
      room = omega (arith, count, c.loop-letter.invariant.room);
    }
