use Rattle.dk_host.proofs.Calling.{count_entered, count_kept}
use Rattle.dk_host.proofs.host.Host.kept_count.Goals as goal

pub returns-clause-entered : goal.returns-clause-entered
returns-clause-entered g c = count_entered g.W.Hosting.opened g.W.Hosting.keeps c.args.pass.now.number c.with.result c.args.pass.now.front c.with.new.pass.front c.with.ensures.called

pub returns-clause-count : goal.returns-clause-count
returns-clause-count g c = count_kept g.W.Hosting.opened g.W.Hosting.keeps c.args.pass.now.number c.with.result c.args.pass.now.front c.with.new.pass.front c.with.ensures.called
