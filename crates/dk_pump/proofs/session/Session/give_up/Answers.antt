use Rattle.std.proofs.Common.{[]}
use Rattle.dk_pump.proofs.Midst.{midst_on}
use Rattle.dk_pump.proofs.session.Session.give_up.Goals as goal

pub stop_writing-requires-clause-midst : goal.stop_writing-requires-clause-midst
stop_writing-requires-clause-midst g c =
    let s = c.args.self.now in
    let at = c.stop_reading.new.self in
    midst_on g.W.Hosting.opened g.W.Hosting.keeps g.J.Naming.name.passes s.pass at.pass s.link at.link s.course at.course [] [] c.stop_reading.ensures.goes c.requires.midst

pub returns-clause-goes : goal.returns-clause-goes
returns-clause-goes g c = λ began given session. c.stop_writing.ensures.goes began given (c.stop_reading.ensures.goes began given session)
