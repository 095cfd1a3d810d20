use Rattle.std.proofs.Common.{ap, ◌∙◌}
use Rattle.dk_map.proofs.Seen.{len_seen}
use Rattle.dk_names.proofs.names.Names.len.Goals as goal

pub returns-clause-len : goal.returns-clause-len
returns-clause-len c = c.len.ensures.len ∙ len_seen _ (ap (λ s. s.names) c.self.view_is) c.self.invariant

pub returns-clause-small : goal.returns-clause-small
returns-clause-small c =
    rw (← len_seen _ (ap (λ s. s.names) c.self.view_is) c.self.invariant, ← ap (λ s. s.spare) c.self.view_is) c.len.ensures.small
