use Rattle.std.proofs.Common.{◌≡◌, ◌<◌, map, take, sym, subst, arith}
use Rattle.std.proofs.Math.Logic.{∥∥₁_elim}
use Rattle.std.specs.Coded.{le_prop}
use Rattle.std.proofs.lemmas.List.{length-take}
use Rattle.futures.specs.declared.task.Poll.TheVariants.{Ready}
use Rattle.dk_edge.specs.Links.{Counts}
use Rattle.dk_edge.specs.Streams.{Gives, Takes}
use Rattle.dk_frame.specs.Meanings.{frame_of}
use Rattle.dk_pump.specs.declared.limits.TheConstants.{SESSION_MOST_BYTES}
use Rattle.dk_pump.specs.declared.ends.SessionEnd.{SessionEnd}
use Rattle.dk_pump.specs.Reading.{IsNextEnd}
use Rattle.dk_pump.proofs.Later.{risen_most}
use Rattle.dk_pump.proofs.OnePiece.{idle_now, refused_fed, fed_more, fault_end, input_end, truncated_end, refused_end}
use Rattle.dk_pump.proofs.PutParts.{not_ready}
use Rattle.dk_pump.proofs.polling.poll_piece.Goals.{in-Ok, in-Err}
use Rattle.dk_pump.proofs.polling.poll_piece.Goals as goal

pub returns-in-Ready-Err-clause-ready : goal.returns-in-Ready-Err-clause-ready
returns-in-Ready-Err-clause-ready g c =
    let old = c.args.link.now in
    let new = c.poll_take.new.self in
    let d = c.args.decoder.now in
    let some = c.requires.some in
    let few = c.requires.few in
    subst (λ (end : SessionEnd). IsNextEnd end old.left new.left d d old.take_counted new.take_counted) (sym c.from.ensures)
    (fault_end old.left new.left d d old.take_counted new.take_counted (idle_now d c.requires.good) (omega (arith, some, few)) (subst (Takes old.left new.left c.poll_take.new.into) c.in-Ready-Err.field-0-is c.in-Ready-Err.ensures.bytes) (subst (λ r. Counts old.take_counted new.take_counted (Ready r)) c.in-Ready-Err.field-0-is c.in-Ready-Err.ensures.count))

pub returns-in-Pending-clause-pending : goal.returns-in-Pending-clause-pending
returns-in-Pending-clause-pending g c =
    let old = c.args.link.now in
    let new = c.poll_take.new.self in
    not_ready old.left new.left c.args.decoder.now old.take_counted new.take_counted c.in-Pending.ensures.bytes c.in-Pending.ensures.count

pub returns-then-count-eq0-clause-ready : goal.returns-then-count-eq0-clause-ready
returns-then-count-eq0-clause-ready g c =
    let gives : Gives c.args.link.now.left c.poll_take.new.self.left c.poll_take.new.into c.in-Ready-Ok.count = subst (Takes c.args.link.now.left c.poll_take.new.self.left c.poll_take.new.into) c.in-Ready-Ok.field-0-is c.in-Ready-Ok.ensures.bytes in
    let still : c.poll_take.new.self.take_counted ≡ c.args.link.now.take_counted = subst (λ r. Counts c.args.link.now.take_counted c.poll_take.new.self.take_counted (Ready r)) c.in-Ready-Ok.field-0-is c.in-Ready-Ok.ensures.count in
    let old = c.args.link.now in
    let new = c.poll_take.new.self in
    let d = c.args.decoder.now in
    let some = c.requires.some in
    let few = c.requires.few in
    let less : d.fed < SESSION_MOST_BYTES = omega (arith, some, few) in
    elim c.match-end.branch [
      | in-Ok w ↦ subst (λ (end : SessionEnd). IsNextEnd end old.left new.left d d old.take_counted new.take_counted) (sym w.result-is)
          (input_end old.left new.left d d old.take_counted new.take_counted (idle_now d c.requires.good) _ c.in-Ready-Ok.count less gives c.if-count-eq0.true still w.fed.result w.fed.ensures w.in-Ok.ensures)
      | in-Err w ↦ subst (λ (end : SessionEnd). IsNextEnd end old.left new.left d d old.take_counted new.take_counted) (sym w.result-is)
          (truncated_end old.left new.left d d old.take_counted new.take_counted (idle_now d c.requires.good) _ c.in-Ready-Ok.count less gives c.if-count-eq0.true still _ w.in-Err.ensures)
    ]

pub returns-in-Ok-feed-clause-few : goal.returns-in-Ok-feed-clause-few
returns-in-Ok-feed-clause-few g c =
    let gives : Gives c.args.link.now.left c.poll_take.new.self.left c.poll_take.new.into c.in-Ready-Ok.count = subst (Takes c.args.link.now.left c.poll_take.new.self.left c.poll_take.new.into) c.in-Ready-Ok.field-0-is c.in-Ready-Ok.ensures.bytes in
    let piece = take c.in-Ready-Ok.count c.poll_take.new.into in
    let within = gives.within in
    let long = length-take c.in-Ready-Ok.count c.poll_take.new.into in
    let few = c.requires.few in
    ∥∥₁_elim c.requires.stream le_prop (λ s. let more = fed_more c.args.decoder.now c.feed.new.self piece (map frame_of c.in-Ok-feed.frames.items) s c.in-Ok-feed.ensures.ok in omega (arith, more, within, long, few))

pub returns-in-Err-feed-clause-ready : goal.returns-in-Err-feed-clause-ready
returns-in-Err-feed-clause-ready g c =
    let gives : Gives c.args.link.now.left c.poll_take.new.self.left c.poll_take.new.into c.in-Ready-Ok.count = subst (Takes c.args.link.now.left c.poll_take.new.self.left c.poll_take.new.into) c.in-Ready-Ok.field-0-is c.in-Ready-Ok.ensures.bytes in
    let still : c.poll_take.new.self.take_counted ≡ c.args.link.now.take_counted = subst (λ r. Counts c.args.link.now.take_counted c.poll_take.new.self.take_counted (Ready r)) c.in-Ready-Ok.field-0-is c.in-Ready-Ok.ensures.count in
    let old = c.args.link.now in
    let new = c.poll_take.new.self in
    let d = c.args.decoder.now in
    subst (λ (end : SessionEnd). IsNextEnd end old.left new.left d c.feed.new.self old.take_counted new.take_counted) (sym c.from-in-Err-feed.ensures)
    (refused_end c.in-Err-feed.refused old.left new.left d d c.feed.new.self (take c.in-Ready-Ok.count c.poll_take.new.into) old.take_counted new.take_counted (λ stream given s. s) gives.front c.in-Err-feed.ensures.refused still)

pub returns-in-Err-feed-clause-few : goal.returns-in-Err-feed-clause-few
returns-in-Err-feed-clause-few g c =
    let gives : Gives c.args.link.now.left c.poll_take.new.self.left c.poll_take.new.into c.in-Ready-Ok.count = subst (Takes c.args.link.now.left c.poll_take.new.self.left c.poll_take.new.into) c.in-Ready-Ok.field-0-is c.in-Ready-Ok.ensures.bytes in
    let within = gives.within in
    let long = length-take c.in-Ready-Ok.count c.poll_take.new.into in
    let few = c.requires.few in
    ∥∥₁_elim c.requires.stream le_prop (λ s. let more = refused_fed c.in-Err-feed.refused c.args.decoder.now c.feed.new.self (take c.in-Ready-Ok.count c.poll_take.new.into) s c.in-Err-feed.ensures.refused in omega (arith, more, within, long, few))

pub returns-in-Pending-clause-counted : goal.returns-in-Pending-clause-counted
returns-in-Pending-clause-counted g c = risen_most c.args.link.now.take_waits c.poll_take.new.self.take_waits c.in-Pending.ensures.waits
