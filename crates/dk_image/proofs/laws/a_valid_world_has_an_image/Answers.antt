use Rattle.dk_image.proofs.ValidWorlds.{valid_spells}
use Rattle.dk_image.proofs.laws.a_valid_world_has_an_image.Goals as goal

pub returns : goal.returns
returns c = valid_spells
