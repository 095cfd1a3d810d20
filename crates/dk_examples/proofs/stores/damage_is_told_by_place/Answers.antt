use Rattle.dk_examples.proofs.StoreRuns.{damage_is_told_by_place}
use Rattle.dk_examples.proofs.stores.damage_is_told_by_place.Goals as goal

pub returns : goal.returns
returns c = damage_is_told_by_place
