use Rattle.dk_session_laws.proofs.Ordered.{stores_count}
use Rattle.dk_session_laws.proofs.histories.stores_count.Goals as goal

pub returns : goal.returns
returns c = stores_count
