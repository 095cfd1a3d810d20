use Rattle.std.proofs.Common.{ap, ◌∙◌}
use Rattle.dk_map.specs.AsMap.{map_of}
use Rattle.dk_map.proofs.Maps.{map_of-empty}
use Rattle.dk_types.specs.Keys.{id_cmp}
use Rattle.dk_overlay.proofs.objects.ObjectChanges.new.Goals as goal

pub returns : goal.returns
returns c = ap (map_of id_cmp) c.new.ensures.empty ∙ map_of-empty id_cmp
