use Rattle.std.proofs.Common.{sym, ◌∙◌}
use Rattle.dk_map.proofs.Changed.{ordered_changed}
use Rattle.dk_map.proofs.map.OrderedMap.change.Goals as goal

pub invariant_of-self : goal.invariant_of-self
invariant_of-self g c =
    (ordered_changed g.met.K.Ord.total _ _ _ _ _ c.self.invariant.0 c.change.ensures.changed, c.self.invariant.1 ∙ sym c.change.ensures.len, c.self.invariant.2)

pub returns-clause-ordered : goal.returns-clause-ordered
returns-clause-ordered g c = ordered_changed g.met.K.Ord.total _ _ _ _ _ c.self.invariant.0 c.change.ensures.changed
