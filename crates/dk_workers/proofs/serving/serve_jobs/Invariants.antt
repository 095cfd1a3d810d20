use Rattle.dk_workers.specs.Serving.{HasServed}
use Rattle.dk_workers.proofs.serving.serve_jobs.Given as goal

abbrev pub invariant-loop : goal.invariant-loop
invariant-loop g l = HasServed g.W.Hosting.opened g.J.Naming.name.passes l.fn.pass l.pass
