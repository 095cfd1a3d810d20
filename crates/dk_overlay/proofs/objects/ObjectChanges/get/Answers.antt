use Rattle.std.proofs.Common.{◌∙◌}
use Rattle.dk_map.proofs.Seen.{get_seen}
use Rattle.dk_overlay.proofs.objects.ObjectChanges.get.Goals as goal

pub returns : goal.returns
returns c = c.get.ensures ∙ get_seen _ c.self.view_is c.self.invariant _
