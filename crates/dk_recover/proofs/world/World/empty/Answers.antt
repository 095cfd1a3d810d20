use Rattle.std.proofs.Common.{ap, ◌∙◌, None}
use Rattle.dk_map.specs.AsMap.{map_of}
use Rattle.dk_map.proofs.Maps.{map_of-empty}
use Rattle.dk_types.specs.Names.{bytes_cmp}
use Rattle.dk_model.specs.Keys.{id_cmp, key_cmp}
use Rattle.dk_recover.proofs.world.World.empty.Goals as goal

pub returns : goal.returns
returns c i = record {
  objects = (ap (map_of id_cmp) c.new.ensures.empty ∙ map_of-empty id_cmp) i;
  names = (ap (map_of bytes_cmp) c.new-2.ensures.empty ∙ map_of-empty bytes_cmp) i;
  tasks = (ap (map_of key_cmp) c.new-3.ensures.empty ∙ map_of-empty key_cmp) i;
  commits = 0;
  last = None;
}
