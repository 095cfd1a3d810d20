use Rattle.dk_core.proofs.ReadsStand.{stand_more, first_is}
use Rattle.dk_core.proofs.durable.world.StampedWorld.first_conflict.Goals as goal

pub returns-then-not-stands : goal.returns-then-not-stands
returns-then-not-stands c =
    first_is c.args.self.now c.args.reads.now c.loop-item.item-index c.loop-item-item.result c.loop-item-test.true c.loop-item-item.is c.loop-item.invariant
    c.if-not-stands.ensures _ c.in_ok-changed.ensures.item c.in_ok-changed.ensures.found c.in_ok-changed.ensures.now

pub loop-item-preserved : goal.loop-item-preserved
loop-item-preserved c =
    stand_more c.args.self.now c.args.reads.now c.loop-item.item-index c.loop-item-item.result c.loop-item-test.true c.loop-item-item.is c.loop-item.invariant c.if-not-stands.ensures
