use Rattle.dk_model.specs.declared.waiting.Waiting.TheVariants as waits
use Rattle.dk_model.specs.Events.{put_last}
use Rattle.dk_connections.specs.MarkedConnections.{linked}
use Rattle.dk_core.proofs.Drawn.{numbers_posted}
use Rattle.dk_core.proofs.Entering.{posts}
use Rattle.dk_core.proofs.world.Core.post.Goals as goal

pub invariant_of-self : goal.invariant_of-self
invariant_of-self c =
    record { numbers = numbers_posted c.post.result c.args.self.now.world.commits c.args.self.now.claims c.args.self.now.connections c.post.new.self c.args.conn (linked (put_last (waits.Input c.args.input))) c.post.ensures.linked c.post.ensures.refused c.args.self.now.numbers }

pub returns-clause-event : goal.returns-clause-event
returns-clause-event c = posts c.args.self.now c.args.conn c.args.input c.post.new.self _ c.post.result c.requires.within c.post.ensures.answer c.post.ensures.linked c.post.ensures.world c.post.ensures.swept c.post.ensures.refused
