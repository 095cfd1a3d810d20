use Rattle.std.proofs.Common.{ap, ◌∙◌}
use Rattle.dk_map.proofs.Seen.{get_seen}
use Rattle.dk_names.proofs.names.Names.get.Goals as goal

pub returns : goal.returns
returns c = c.copied.ensures ∙ c.get.ensures ∙ get_seen _ (ap (λ s. s.names) c.self.view_is) c.self.invariant _
