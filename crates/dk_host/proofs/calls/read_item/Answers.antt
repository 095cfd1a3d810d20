use Rattle.dk_host.proofs.Calling.{read_entered, read_at_front}
use Rattle.dk_host.proofs.calls.read_item.Goals as goal

pub returns-clause-entered : goal.returns-clause-entered
returns-clause-entered g c = read_entered g.W.Hosting.opened c.args.pass.now.number c.args.item.now c.with.result c.args.pass.now.front c.with.new.pass.front c.with.ensures.called

pub returns-clause-read : goal.returns-clause-read
returns-clause-read g c = read_at_front g.W.Hosting.opened c.args.pass.now.number c.args.item.now c.with.result c.args.pass.now.front c.with.new.pass.front c.with.ensures.called
