use Rattle.dk_session_laws.proofs.Laws.{calls_keep}
use Rattle.dk_session_laws.proofs.keeping.calls_keep_sessions.Goals as goal

pub returns : goal.returns
returns c = calls_keep
