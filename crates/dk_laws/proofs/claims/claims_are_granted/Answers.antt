use Rattle.dk_laws.proofs.Claimable.{claims_granted}
use Rattle.dk_laws.proofs.claims.claims_are_granted.Goals as goal

pub returns : goal.returns
returns c = claims_granted
