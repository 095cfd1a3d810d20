use Rattle.std.proofs.Common.{max, ap, ◌∙◌}
use Rattle.dk_core.proofs.Entering.{ticks}
use Rattle.dk_core.proofs.world.Core.tick.Goals as goal

pub returns-clause-event : goal.returns-clause-event
returns-clause-event c pass = ticks c.args.self.now c.args.moment pass c.max-self.result _ (c.max-self.ensures ∙ ap (max c.args.self.now.moment) c.min.ensures)
