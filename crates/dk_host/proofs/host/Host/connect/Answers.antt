use Rattle.dk_host.specs.Calls.{connect_events}
use Rattle.dk_host.proofs.Calling.{entered}
use Rattle.dk_host.proofs.host.Host.connect.Goals as goal

pub returns-clause-entered : goal.returns-clause-entered
returns-clause-entered g c = entered g.W.Hosting.opened c.args.pass.now.number (connect_events c.args.pass.now.number c.args.name.now c.with.result) c.args.pass.now.front c.with.new.pass.front c.with.ensures.called
