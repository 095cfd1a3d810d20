use Rattle.dk_laws.proofs.Answered.{logins_answered}
use Rattle.dk_laws.proofs.messages.logins_are_answered.Goals as goal

pub returns : goal.returns
returns c = logins_answered
