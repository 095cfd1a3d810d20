use Rattle.dk_session_laws.proofs.Ordered.{legal_counted}
use Rattle.dk_session_laws.proofs.histories.legal_sessions_count.Goals as goal

pub returns : goal.returns
returns c = legal_counted
