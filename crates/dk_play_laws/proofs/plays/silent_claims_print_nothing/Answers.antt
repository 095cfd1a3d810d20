use Rattle.dk_play_laws.proofs.Reported.{silent_told}
use Rattle.dk_play_laws.proofs.plays.silent_claims_print_nothing.Goals as goal

pub returns : goal.returns
returns c = silent_told
