use Rattle.dk_session_laws.proofs.Ordered.{stay_counted}
use Rattle.dk_session_laws.proofs.histories.sessions_stay_counted.Goals as goal

pub returns : goal.returns
returns c = stay_counted
