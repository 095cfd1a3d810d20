use Rattle.std.proofs.Common.{◌<◌, length, sym, ap, subst, ◌∙◌, arith}
use Rattle.dk_types.specs.declared.event.Event.{Event}
use Rattle.dk_model.specs.Legal.{IsFront}
use Rattle.dk_turn.specs.Fronts.{Known}
use Rattle.dk_workers.proofs.Meetings.{round_none, round_next, round_all}
use Rattle.dk_workers.proofs.play.drains.meet_all.Goals as goal

pub loop-k-init : goal.loop-k-init
loop-k-init g c = round_none c.args.workers.now c.args.main.now

pub loop-k-preserved : goal.loop-k-preserved
loop-k-preserved g c =
    let p = c.index-workers-k.result in
    let is = c.index-workers-k.is in
    let m = c.meet.ensures in
    let within : c.loop-k.k < length c.loop-k.workers = omega (arith, c.loop-k-test.true, c.loop-k.auto.workers) in
    round_next c.loop-k.k c.args.workers.now c.loop-k.workers c.args.main.now c.loop-k.main c.meet.new.one p c.meet.new.other c.loop-k.invariant within (sym is)
    m.numbers.0 (m.numbers.1 ∙ ap (λ (x : Known Event). x.number) (sym is)) m.same m.one (subst (λ (x : Known Event). IsFront x.number x.front c.meet.new.other.front) (sym is) m.other)

pub returns : goal.returns
returns g c = round_all c.loop-k.k c.args.workers.now c.loop-k.workers c.args.main.now c.loop-k.main (omega (arith, c.loop-k-test.false, c.loop-k.auto.workers)) c.loop-k.invariant
