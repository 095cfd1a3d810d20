use Rattle.std.proofs.Common.{◌≡◌, [], None, sym, subst}
use Rattle.dk_pump.specs.declared.ends.SessionEnd.TheVariants as ends
use Rattle.dk_pump.specs.Sessions.{EndsReading, GoesOn}
use Rattle.dk_pump.proofs.Midst.{not_ended}
use Rattle.dk_pump.proofs.Steps.{reads_no_more}
use Rattle.dk_pump.proofs.session.Session.stop_reading.Goals as goal

pub returns-clause-goes : goal.returns-clause-goes
returns-clause-goes g c =
    let s = c.args.self.now in
    let last = c.end_reading.new.self in
    let none : s.course.end ≡ None = not_ended s.course.end c.is_some.result c.is_some.ensures c.if-is_some.false in
    subst (λ l. GoesOn g.W.Hosting.opened g.W.Hosting.keeps g.J.Naming.name.passes s.pass s.link s.course [] last.pass l last.course []) (sym c.end_reading.ensures.link)
    (reads_no_more g.W.Hosting.opened g.W.Hosting.keeps g.J.Naming.name.passes s.pass last.pass s.link s.course last.course c.args.conn c.requires.conn none
    (subst (λ k. EndsReading g.W.Hosting.opened g.W.Hosting.keeps g.J.Naming.name.passes k ends.NoMemory s.pass s.course last.pass last.course) c.requires.conn c.end_reading.ensures.ends))
