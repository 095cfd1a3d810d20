use Rattle.dk_host.proofs.Calling.{post_entered, post_spared}
use Rattle.dk_host.proofs.host.Host.post.Goals as goal

pub returns-clause-entered : goal.returns-clause-entered
returns-clause-entered g c = post_entered g.W.Hosting.opened g.W.Hosting.keeps c.args.pass.now.number c.args.conn c.args.input c.with.result c.args.pass.now.front c.with.new.pass.front c.with.ensures.called

pub returns-clause-spared : goal.returns-clause-spared
returns-clause-spared g c = post_spared g.W.Hosting.opened g.W.Hosting.keeps c.args.pass.now.number c.args.conn c.args.input c.with.result c.args.pass.now.front c.with.new.pass.front c.with.ensures.called
