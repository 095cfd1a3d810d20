use Rattle.dk_host.proofs.Calling.{claim_entered, claim_granted}
use Rattle.dk_host.proofs.host.Host.claim.Goals as goal

pub returns-clause-entered : goal.returns-clause-entered
returns-clause-entered g c = claim_entered g.W.Hosting.opened c.args.pass.now.number c.with.result c.args.pass.now.front c.with.new.pass c.with.ensures.called

pub returns-clause-grants : goal.returns-clause-grants
returns-clause-grants g c = claim_granted g.W.Hosting.opened c.args.pass.now.number c.with.result c.args.pass.now.front c.with.new.pass c.with.ensures.called c.with.ensures.number
