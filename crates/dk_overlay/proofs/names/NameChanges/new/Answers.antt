use Rattle.std.proofs.Common.{ap, ◌∙◌}
use Rattle.dk_types.specs.Names.{bytes_cmp}
use Rattle.dk_map.specs.AsMap.{map_of}
use Rattle.dk_map.proofs.Maps.{map_of-empty}
use Rattle.dk_overlay.proofs.names.NameChanges.new.Goals as goal

pub returns : goal.returns
returns c = ap (map_of bytes_cmp) c.new.ensures.empty ∙ map_of-empty bytes_cmp
