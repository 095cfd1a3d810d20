use Rattle.dk_shipped_laws.proofs.Shipped.{shipped_keep}
use Rattle.dk_shipped_laws.proofs.shipped_games_keep_sessions.Goals as goal

pub returns : goal.returns
returns c = shipped_keep
