use Rattle.dk_session_laws.proofs.Counted.{empty_count}
use Rattle.dk_session_laws.proofs.histories.fresh_sessions_count.Goals as goal

pub returns : goal.returns
returns c = empty_count
