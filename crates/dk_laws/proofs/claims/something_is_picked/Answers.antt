use Rattle.dk_laws.proofs.Claimable.{something_picked}
use Rattle.dk_laws.proofs.claims.something_is_picked.Goals as goal

pub returns : goal.returns
returns c = something_picked
