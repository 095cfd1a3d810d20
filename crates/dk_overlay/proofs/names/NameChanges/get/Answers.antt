use Rattle.std.proofs.Common.{Some, ap, ◌∙◌}
use Rattle.dk_map.proofs.Seen.{get_seen}
use Rattle.dk_overlay.proofs.names.NameChanges.get.Goals as goal

pub returns-in-None : goal.returns-in-None
returns-in-None c = c.in-None.ensures ∙ get_seen _ c.self.view_is c.self.invariant.0 _

pub returns-in-Some : goal.returns-in-Some
returns-in-Some c = ap Some c.copy_change.ensures ∙ c.in-Some.ensures ∙ get_seen _ c.self.view_is c.self.invariant.0 _
