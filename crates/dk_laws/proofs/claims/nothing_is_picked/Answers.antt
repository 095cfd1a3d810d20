use Rattle.dk_laws.proofs.Claimable.{nothing_picked}
use Rattle.dk_laws.proofs.claims.nothing_is_picked.Goals as goal

pub returns : goal.returns
returns c = nothing_picked
