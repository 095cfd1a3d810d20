use Rattle.dk_laws.proofs.SoundHistories.{sends_few}
use Rattle.dk_laws.proofs.messages.runs_send_few.Goals as goal

pub returns : goal.returns
returns c = sends_few
