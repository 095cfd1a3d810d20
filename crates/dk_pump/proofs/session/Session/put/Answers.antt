use Rattle.std.proofs.Common.{ℕ, List, [], true, Ok, Err, sym, subst}
use Rattle.std.specs.Io.KnownBytes.{Appends}
use Rattle.futures.specs.declared.task.Poll.TheVariants.{Ready}
use Rattle.dk_pump.specs.declared.putting.PutRefused.TheVariants as refused
use Rattle.dk_pump.specs.Sessions.{ArePolled, GoesOn}
use Rattle.dk_pump.proofs.Midst.{midst_on}
use Rattle.dk_pump.proofs.Steps.{fails, puts}
use Rattle.dk_pump.proofs.Streams.{appends_none}
use Rattle.dk_pump.proofs.session.Session.put.Goals as goal

pub give_up-requires-clause-midst : goal.give_up-requires-clause-midst
give_up-requires-clause-midst g c =
    let s = c.args.self.now in
    let old = s.link in
    let new = c.put.new.link in
    let polled : ArePolled (Ready (Err refused.NoMemory)) old.contents new.contents old.put_counted new.put_counted s.course.outgoing c.put.new.self =
    subst (λ w. ArePolled (Ready (Err w)) old.contents new.contents old.put_counted new.put_counted s.course.outgoing c.put.new.self) c.in-Ready-Err-NoMemory.field-0-0-is
    (subst (λ r. ArePolled (Ready r) old.contents new.contents old.put_counted new.put_counted s.course.outgoing c.put.new.self) c.in-Ready-Err-NoMemory.field-0-is c.in-Ready-Err-NoMemory.ensures.put) in
    midst_on g.W.Hosting.opened g.W.Hosting.keeps g.J.Naming.name.passes s.pass s.pass old new s.course _ [] []
    (puts g.W.Hosting.opened g.W.Hosting.keeps g.J.Naming.name.passes s.pass old new s.course c.args.conn [] c.put.new.self c.requires.conn c.requires.writes c.requires.puts (sym polled.0) (subst (λ k. Appends old.contents k []) (sym polled.1) (appends_none old.contents)) polled.2 c.in-Ready-Err-NoMemory.ensures.take) c.requires.midst

pub returns-in-Ready-Err-NoMemory-clause-goes : goal.returns-in-Ready-Err-NoMemory-clause-goes
returns-in-Ready-Err-NoMemory-clause-goes g c = λ began given session.
    let s = c.args.self.now in
    let old = s.link in
    let new = c.put.new.link in
    let polled : ArePolled (Ready (Err refused.NoMemory)) old.contents new.contents old.put_counted new.put_counted s.course.outgoing c.put.new.self =
    subst (λ w. ArePolled (Ready (Err w)) old.contents new.contents old.put_counted new.put_counted s.course.outgoing c.put.new.self) c.in-Ready-Err-NoMemory.field-0-0-is
    (subst (λ r. ArePolled (Ready r) old.contents new.contents old.put_counted new.put_counted s.course.outgoing c.put.new.self) c.in-Ready-Err-NoMemory.field-0-is c.in-Ready-Err-NoMemory.ensures.put) in
    c.give_up.ensures.goes began given
    (puts g.W.Hosting.opened g.W.Hosting.keeps g.J.Naming.name.passes s.pass old new s.course c.args.conn [] c.put.new.self c.requires.conn c.requires.writes c.requires.puts (sym polled.0) (subst (λ k. Appends old.contents k []) (sym polled.1) (appends_none old.contents)) polled.2 c.in-Ready-Err-NoMemory.ensures.take began given session)

pub returns-in-Ready-Ok-clause-goes : goal.returns-in-Ready-Ok-clause-goes
returns-in-Ready-Ok-clause-goes g c =
    let s = c.args.self.now in
    let old = s.link in
    let new = c.put.new.link in
    let polled : ArePolled (Ready (Ok tt)) old.contents new.contents old.put_counted new.put_counted s.course.outgoing c.put.new.self =
    subst (λ r. ArePolled (Ready r) old.contents new.contents old.put_counted new.put_counted s.course.outgoing c.put.new.self) c.in-Ready-Ok.field-0-is c.in-Ready-Ok.ensures.put in
    puts g.W.Hosting.opened g.W.Hosting.keeps g.J.Naming.name.passes s.pass old new s.course c.args.conn polled.0 c.put.new.self c.requires.conn c.requires.writes c.requires.puts polled.1 polled.2 polled.3 c.in-Ready-Ok.ensures.take

pub returns-in-Ready-Err-Failed-clause-goes : goal.returns-in-Ready-Err-Failed-clause-goes
returns-in-Ready-Err-Failed-clause-goes g c =
    let s = c.args.self.now in
    let old = s.link in
    let new = c.put.new.link in
    let polled : ArePolled (Ready (Err refused.Failed)) old.contents new.contents old.put_counted new.put_counted s.course.outgoing c.put.new.self =
    subst (λ w. ArePolled (Ready (Err w)) old.contents new.contents old.put_counted new.put_counted s.course.outgoing c.put.new.self) c.in-Ready-Err-Failed.field-0-0-is
    (subst (λ r. ArePolled (Ready r) old.contents new.contents old.put_counted new.put_counted s.course.outgoing c.put.new.self) c.in-Ready-Err-Failed.field-0-is c.in-Ready-Err-Failed.ensures.put) in
    subst (λ (bytes : List ℕ). GoesOn g.W.Hosting.opened g.W.Hosting.keeps g.J.Naming.name.passes s.pass old s.course [] c.disconnect.new.pass new (record { decoder = s.course.decoder; conn = s.course.conn; end = s.course.end; outgoing = bytes; failed = true; gone = s.course.gone; write = s.course.write }) []) (sym c.new.ensures)
    (fails g.W.Hosting.opened g.W.Hosting.keeps g.J.Naming.name.passes s.pass c.disconnect.new.pass old new s.course c.args.conn c.requires.conn c.requires.writes c.requires.puts c.disconnect.ensures.number polled.0 polled.1 c.in-Ready-Err-Failed.ensures.take c.disconnect.ensures.posted)

pub returns-in-Pending-clause-goes : goal.returns-in-Pending-clause-goes
returns-in-Pending-clause-goes g c =
    let s = c.args.self.now in
    let polled = c.in-Pending.ensures.put in
    puts g.W.Hosting.opened g.W.Hosting.keeps g.J.Naming.name.passes s.pass s.link c.put.new.link s.course c.args.conn [] c.put.new.self c.requires.conn c.requires.writes c.requires.puts (sym polled.0) polled.1 polled.2 c.in-Pending.ensures.take
