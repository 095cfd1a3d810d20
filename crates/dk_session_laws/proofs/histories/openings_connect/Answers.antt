use Rattle.dk_session_laws.proofs.Counted.{connected_there}
use Rattle.dk_session_laws.proofs.histories.openings_connect.Goals as goal

pub returns : goal.returns
returns c = connected_there
