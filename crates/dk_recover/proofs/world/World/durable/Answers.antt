use Rattle.std.proofs.Common.{map, ap, ◌∙◌}
use Rattle.dk_map.proofs.Seen.{entries_seen}
use Rattle.dk_model.specs.DurableWorlds.{DurableWorld}
use Rattle.dk_model.specs.Effects.{pending_of}
use Rattle.dk_recover.proofs.world.World.durable.Goals as goal

pub returns : goal.returns
returns c i = record {
  commits = (c.self.view_is i).commits;
  last = (c.self.view_is i).last;
  objects = (c.from_vec.ensures ∙ c.in_ok-objects.ensures ∙ entries_seen _ (ap (λ (w : DurableWorld). w.objects) c.self.view_is) c.self.invariant.0) i;
  names = (c.from_vec-2.ensures ∙ c.in_ok-names.ensures ∙ entries_seen _ (ap (λ (w : DurableWorld). w.names) c.self.view_is) c.self.invariant.1) i;
  tasks = (c.from_vec-3.ensures ∙ c.in_ok-tasks.ensures ∙ ap (map pending_of) (entries_seen _ (ap (λ (w : DurableWorld). w.tasks) c.self.view_is) c.self.invariant.2)) i;
}
