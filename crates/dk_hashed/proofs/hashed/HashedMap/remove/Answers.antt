use Rattle.std.proofs.Common.{ap, ◌∙◌}
use Rattle.dk_map.specs.Entries.{find, without}
use Rattle.dk_map.specs.OrderedMap.{Ordered}
use Rattle.dk_hashed.proofs.InOrder.{lookup_in_order, ordered-in_order, updated_without}
use Rattle.dk_hashed.proofs.hashed.HashedMap.remove.Goals as goal

pub returns-clause-value : goal.returns-clause-value
returns-clause-value g c =
    c.remove_entry-removed.ensures.value ∙ lookup_in_order g.met.K.Ord.total _ g.met.K.Ord.matches_eq _ _ ∙ ap (λ (m : Ordered _ _). find g.K.Ord.cmp c.args.key.now m.entries) c.self.view_is

pub returns-clause-entries : goal.returns-clause-entries
returns-clause-entries g c =
    updated_without g.met.K.Ord.total _ g.met.K.Ord.matches_eq c.self.invariant.0 _ _ c.args.key.now c.remove_entry-removed.ensures.updates.0
    ∙ ap (λ (m : Ordered _ _). without g.K.Ord.cmp c.args.key.now m.entries) c.self.view_is

pub returns-clause-ordered : goal.returns-clause-ordered
returns-clause-ordered g c = ordered-in_order _ _
