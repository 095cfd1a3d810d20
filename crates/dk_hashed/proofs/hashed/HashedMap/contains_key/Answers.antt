use Rattle.std.proofs.Common.{ap, ◌∙◌, is_some}
use Rattle.dk_map.specs.Entries.{find}
use Rattle.dk_map.specs.OrderedMap.{Ordered}
use Rattle.dk_hashed.proofs.InOrder.{lookup_in_order}
use Rattle.dk_hashed.proofs.hashed.HashedMap.contains_key.Goals as goal

pub returns : goal.returns
returns g c = c.contains_key.ensures ∙ ap is_some (lookup_in_order g.met.K.Ord.total _ g.met.K.Ord.matches_eq _ _ ∙ ap (λ (m : Ordered _ _). find g.K.Ord.cmp c.args.key.now m.entries) c.self.view_is)
