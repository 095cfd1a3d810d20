use Rattle.dk_host.proofs.host.Host.checkpoint.Goals as goal

pub returns-clause-answers : goal.returns-clause-answers
returns-clause-answers g c = (_, c.checkpoint.ensures.since, c.checkpoint.ensures.answers)
