use Rattle.std.proofs.Common.{◌≡◌, refl, ap}
use Rattle.dk_types.specs.declared.object.Object.{Object}
use Rattle.dk_map.proofs.Seen.{changed_seen}
use Rattle.dk_model.specs.DurableWorlds.{with_value}
use Rattle.dk_objects.proofs.Ids.{id_total, id_same}
use Rattle.dk_objects.proofs.objects.Objects.restamp.Goals as goal

pub returns-clause-objects : goal.returns-clause-objects
returns-clause-objects c =
    changed_seen id_total _ (ap (λ s. s.objects) c.self.view_is) c.self.invariant id_same c.args.id _ (λ (o : Object × _). (o.0, c.args.stamp)) (λ x y _ p. let met = p.met in let is : y ≡ (x.0, c.args.stamp) = cc in is)
    c.change.result _ c.change.ensures.changed (with_value c.args.self.now.objects c.args.id) refl (λ _. refl)
