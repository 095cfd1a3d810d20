use Rattle.dk_session_laws.proofs.Laws.{operations_keep}
use Rattle.dk_session_laws.proofs.keeping.operations_keep_sessions.Goals as goal

pub returns : goal.returns
returns c = operations_keep
