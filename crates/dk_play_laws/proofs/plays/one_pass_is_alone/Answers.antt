use Rattle.dk_play_laws.proofs.Own.{alone}
use Rattle.dk_play_laws.proofs.plays.one_pass_is_alone.Goals as goal

pub returns : goal.returns
returns c = alone
