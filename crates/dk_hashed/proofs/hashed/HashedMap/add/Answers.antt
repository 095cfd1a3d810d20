use Rattle.std.proofs.Common.{ap, ◌∙◌}
use Rattle.dk_map.specs.Entries.{put}
use Rattle.dk_map.specs.OrderedMap.{Ordered}
use Rattle.dk_hashed.proofs.InOrder.{ordered-in_order, updated_put}
use Rattle.dk_hashed.proofs.hashed.HashedMap.add.Goals as goal

pub returns-clause-entries : goal.returns-clause-entries
returns-clause-entries g c =
    updated_put g.met.K.Ord.total _ g.met.K.Ord.matches_eq c.self.invariant.0 _ _ c.args.key c.args.value c.in-Ok.ensures.updates.0
    ∙ ap (λ (m : Ordered _ _). put g.K.Ord.cmp c.args.key c.args.value m.entries) c.self.view_is

pub returns-clause-ordered : goal.returns-clause-ordered
returns-clause-ordered g c = ordered-in_order _ _
