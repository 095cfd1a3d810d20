use Rattle.dk_workers.specs.Workers.{HasWorked}
use Rattle.dk_workers.proofs.worker.work.Given as goal

abbrev pub invariant-loop : goal.invariant-loop
invariant-loop g l = HasWorked g.W.Hosting.opened g.J.Naming.name.passes l.fn.pass l.pass
