use Rattle.dk_pump.proofs.Steps.{gives_all_up, gives_rest_up}
use Rattle.dk_pump.proofs.session.Session.stop_writing.Goals as goal

pub returns-then-self-clause-goes : goal.returns-then-self-clause-goes
returns-then-self-clause-goes g c =
    let s = c.args.self.now in
    gives_rest_up g.W.Hosting.opened g.W.Hosting.keeps g.J.Naming.name.passes s.pass s.link s.course c.args.conn c.requires.conn c.requires.writes c.if-self.true c.requires.ended

pub returns-clause-goes : goal.returns-clause-goes
returns-clause-goes g c =
    let s = c.args.self.now in
    gives_all_up g.W.Hosting.opened g.W.Hosting.keeps g.J.Naming.name.passes s.pass c.disconnect.new.pass s.link s.course c.args.conn c.requires.conn c.requires.writes c.if-self.false c.requires.ended c.disconnect.ensures.number c.disconnect.ensures.posted
