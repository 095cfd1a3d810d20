use Rattle.dk_session_laws.proofs.Laws.{open_and_close}
use Rattle.dk_session_laws.proofs.keeping.records_open_and_close.Goals as goal

pub returns : goal.returns
returns c = open_and_close
