use Rattle.dk_workers.proofs.Servings.{served_none, served_then}
use Rattle.dk_workers.proofs.serving.serve_jobs.Goals as goal

pub loop-init : goal.loop-init
loop-init g c = served_none g.W.Hosting.opened g.J.Naming.name.passes c.args.pass.now

pub loop-preserved : goal.loop-preserved
loop-preserved g c = served_then g.W.Hosting.opened g.J.Naming.name.passes c.args.pass.now c.loop.pass c.work.new.pass c.loop.invariant c.in-Idle.ensures.works
