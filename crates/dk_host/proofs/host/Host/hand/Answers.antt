use Rattle.dk_host.proofs.Calling.{hand_entered, hand_short}
use Rattle.dk_host.proofs.host.Host.hand.Goals as goal

pub returns-clause-entered : goal.returns-clause-entered
returns-clause-entered g c = hand_entered g.W.Hosting.opened c.args.pass.now.number c.args.conn c.args.most c.with.result c.args.pass.now.front c.with.new.pass.front c.with.ensures.called

pub returns-clause-short : goal.returns-clause-short
returns-clause-short g c = hand_short g.W.Hosting.opened c.args.pass.now.number c.args.conn c.args.most c.with.result c.args.pass.now.front c.with.new.pass.front c.with.ensures.called
