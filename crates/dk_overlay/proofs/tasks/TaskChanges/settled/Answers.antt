use Rattle.std.proofs.Common.{ap, ◌∙◌}
use Rattle.dk_map.proofs.Seen.{get_seen}
use Rattle.dk_overlay.specs.Changes.{settled}
use Rattle.dk_overlay.proofs.tasks.TaskChanges.settled.Goals as goal

pub returns : goal.returns
returns c = c.settled.ensures ∙ ap settled (c.get.ensures ∙ get_seen _ c.self.view_is c.self.invariant _)
