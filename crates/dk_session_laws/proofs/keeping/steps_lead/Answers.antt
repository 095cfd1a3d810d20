use Rattle.dk_session_laws.proofs.Laws.{steps_lead}
use Rattle.dk_session_laws.proofs.keeping.steps_lead.Goals as goal

pub returns : goal.returns
returns c = steps_lead
