use Rattle.std.proofs.Common.{ap, ◌∙◌}
use Rattle.dk_map.specs.OrderedMap.{Ordered}
use Rattle.dk_hashed.proofs.InOrder.{same_in_order}
use Rattle.dk_hashed.proofs.hashed.HashedMap.reserve.Goals as goal

pub returns-clause-entries : goal.returns-clause-entries
returns-clause-entries g c =
    same_in_order g.met.K.Ord.total _ g.met.K.Ord.matches_eq c.self.invariant.0 _ _ c.in_ok-reserve.ensures.entries.2 ∙ ap (λ (m : Ordered _ _). m.entries) c.self.view_is
