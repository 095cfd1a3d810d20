use Rattle.dk_pump.proofs.Midst.{midst_of, session_ended, session_on}
use Rattle.dk_pump.proofs.future.SessionFutureFuture.poll.Goals as goal

pub go_on-requires : goal.go_on-requires
go_on-requires g c =
    let u = c.underway.inside in
    record { midst = midst_of g.W.Hosting.opened g.W.Hosting.keeps g.J.Naming.name.passes u.began.value u.given.value u.session.pass u.session.link u.session.course c.underway.invariant }

pub invariant_of-result : goal.invariant_of-result
invariant_of-result g c =
    let u = c.underway.inside in
    let s = c.go_on.new.self in
    session_ended g.W.Hosting.opened g.W.Hosting.keeps g.J.Naming.name.passes u.began.value u.given.value u.session.pass u.session.link u.session.course c.underway.invariant s.pass s.link s.course c.in-Ready.end c.in-Ready.write c.go_on.ensures.goes c.in-Ready.ensures.ended.0 c.in-Ready.ensures.ended.1

pub invariant_of-t-24 : goal.invariant_of-t-24
invariant_of-t-24 g c =
    let u = c.underway.inside in
    let s = c.go_on.new.self in
    session_on g.W.Hosting.opened g.W.Hosting.keeps g.J.Naming.name.passes u.began.value u.given.value u.session.pass u.session.link u.session.course c.underway.invariant s.pass s.link s.course c.go_on.ensures.goes
