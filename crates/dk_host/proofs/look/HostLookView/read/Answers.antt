use Rattle.std.proofs.Common.{refl}
use Rattle.dk_host.proofs.Looking.{looks_on, gives}
use Rattle.dk_host.proofs.look.HostLookView.read.Goals as goal

pub returns-clause-gives : goal.returns-clause-gives
returns-clause-gives g c = gives g.W.Hosting.opened c.args.self.now.run c.args.self.now.pass.now c.read_item.new.pass c.read_item.ensures.number c.read_item.ensures.entered c.args.item.now c.read_item.result c.args.self.now.claimed c.read_item.ensures.read

pub returns-clause-becomes : goal.returns-clause-becomes
returns-clause-becomes g c = (looks_on g.W.Hosting.opened c.args.self.now.run c.args.self.now.pass.now c.read_item.new.pass c.read_item.ensures.number c.read_item.ensures.entered, refl)
