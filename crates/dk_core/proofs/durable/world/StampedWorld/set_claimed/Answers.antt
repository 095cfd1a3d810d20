use Rattle.dk_core.proofs.SetClaimed.{claiming_durable, claiming_seen}
use Rattle.dk_core.proofs.durable.world.StampedWorld.set_claimed.Goals as goal

pub returns-clause-durable : goal.returns-clause-durable
returns-clause-durable c = claiming_durable _ _ c.args.key c.args.claimed _ c.self.view_is c.set_claimed.ensures.tasks

pub returns-clause-seen : goal.returns-clause-seen
returns-clause-seen c item = claiming_seen _ _ c.args.key c.args.claimed _ c.self.view_is c.set_claimed.ensures.tasks item
