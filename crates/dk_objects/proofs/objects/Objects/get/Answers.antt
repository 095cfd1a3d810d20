use Rattle.std.proofs.Common.{ap, ◌∙◌}
use Rattle.dk_map.proofs.Seen.{get_seen}
use Rattle.dk_objects.proofs.objects.Objects.get.Goals as goal

pub returns-in_default : goal.returns-in_default
returns-in_default c = c.in_default.ensures ∙ get_seen _ (ap (λ s. s.objects) c.self.view_is) c.self.invariant _

pub returns : goal.returns
returns c = c.in-Some.ensures ∙ get_seen _ (ap (λ s. s.objects) c.self.view_is) c.self.invariant _
