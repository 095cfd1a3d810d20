use Rattle.dk_pump.proofs.Disconnecting.{disconnected}
use Rattle.dk_pump.proofs.closing.disconnect.Goals as goal

pub returns-clause-posted : goal.returns-clause-posted
returns-clause-posted g c = disconnected g.W.Hosting.opened g.W.Hosting.keeps c.args.pass.now.number c.args.conn c.args.graceful c.args.pass.now.front c.post.new.pass.front g.J.Naming.name.passes c.post.result c.post.ensures.entered c.post.ensures.spared c.post.ensures.named
