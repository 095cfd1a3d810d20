use Rattle.dk_laws.proofs.Claimable.{claims_answered}
use Rattle.dk_laws.proofs.claims.claims_are_answered.Goals as goal

pub returns : goal.returns
returns c = claims_answered
