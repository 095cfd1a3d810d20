use Rattle.std.proofs.Common.{[]}
use Rattle.futures.specs.Task.{Keeps}
use Rattle.dk_pump.specs.Sessions.{GoesOn, IsMidst}
use Rattle.dk_pump.specs.Waiting.{IsLater}
use Rattle.dk_pump.proofs.session.Session.go_on.Given as goal

abbrev pub invariant-loop : goal.invariant-loop
invariant-loop g l = record {
  midst : IsMidst g.W.Hosting.opened g.W.Hosting.keeps g.J.Naming.name.passes l.self.pass l.self.link l.self.course [];
  goes : GoesOn g.W.Hosting.opened g.W.Hosting.keeps g.J.Naming.name.passes l.fn.self.pass l.fn.self.link l.fn.self.course [] l.self.pass l.self.link l.self.course [];
  later : IsLater l.fn.self.pass l.fn.self.link l.self.pass l.self.link;
  kept : Keeps l.fn.context l.context;
}
