use Rattle.dk_host.proofs.Calling.{tick_entered, tick_only}
use Rattle.dk_host.proofs.host.Host.tick.Goals as goal

pub returns-clause-entered : goal.returns-clause-entered
returns-clause-entered g c = tick_entered g.W.Hosting.opened g.W.Hosting.keeps c.args.pass.now.number c.args.moment c.with.result c.args.pass.now.front c.with.new.pass.front c.with.ensures.called

pub returns-clause-only : goal.returns-clause-only
returns-clause-only g c = tick_only g.W.Hosting.opened g.W.Hosting.keeps c.args.pass.now.number c.args.moment c.with.result c.args.pass.now.front c.with.new.pass.front c.with.ensures.called
