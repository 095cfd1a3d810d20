use Rattle.std.proofs.Common.{ap, ◌∙◌}
use Rattle.dk_model.specs.Keys.{id_cmp}
use Rattle.dk_map.specs.AsMap.{map_of}
use Rattle.dk_map.proofs.Maps.{map_of-empty}
use Rattle.dk_objects.proofs.Ids.{id_same}
use Rattle.dk_objects.proofs.objects.Objects.new.Goals as goal

pub returns-clause-empty : goal.returns-clause-empty
returns-clause-empty c = ap (map_of id_cmp) c.new.ensures.empty ∙ map_of-empty id_cmp

pub new-requires : goal.new-requires
new-requires c = record { same = id_same }
