use Rattle.std.proofs.Common.{ap, ◌∙◌}
use Rattle.dk_map.proofs.Seen.{entries_seen}
use Rattle.dk_objects.proofs.objects.Objects.entries.Goals as goal

pub returns : goal.returns
returns c = c.in_ok-entries.ensures ∙ entries_seen _ (ap (λ s. s.objects) c.self.view_is) c.self.invariant
