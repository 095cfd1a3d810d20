use Rattle.std.proofs.Common.{ap, ◌∙◌}
use Rattle.dk_map.proofs.Maps.{map_of-empty}
use Rattle.dk_model.specs.Keys.{key_cmp}
use Rattle.dk_tasks.specs.Places.{kept_tasks}
use Rattle.dk_tasks.proofs.Orders.{key_same}
use Rattle.dk_tasks.proofs.tasks.Tasks.new.Goals as goal

pub returns-clause-empty : goal.returns-clause-empty
returns-clause-empty c = ap kept_tasks c.new.ensures.empty ∙ map_of-empty key_cmp

pub new-requires : goal.new-requires
new-requires c = record { same = key_same }
