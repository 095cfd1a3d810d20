use Rattle.std.proofs.Common.{ap, ◌∙◌}
use Rattle.dk_map.specs.AsMap.{map_of}
use Rattle.dk_types.specs.Keys.{id_cmp}
use Rattle.dk_overlay.specs.Changes.{put_each}
use Rattle.dk_overlay.proofs.objects.ObjectChanges.set_all.Goals as goal

pub returns-clause-ok : goal.returns-clause-ok
returns-clause-ok c = c.put_all.ensures.put ∙ ap (put_each c.args.more.items) (ap (map_of id_cmp) c.reserve.ensures.entries ∙ c.self.view_is)
