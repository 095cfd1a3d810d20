use Rattle.dk_laws.proofs.Stamps.{seen_alike}
use Rattle.dk_laws.proofs.sights.sights_tell.Goals as goal

pub returns : goal.returns
returns c = λ rules o earlier later lawful history item. seen_alike rules lawful o earlier later item
