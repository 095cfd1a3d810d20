use Rattle.dk_examples.proofs.SessionRuns.{strange_message_is_nothing}
use Rattle.dk_examples.proofs.sessions.strange_message_is_nothing.Goals as goal

pub returns : goal.returns
returns c = strange_message_is_nothing
