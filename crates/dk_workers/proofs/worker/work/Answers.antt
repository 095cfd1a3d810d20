use Rattle.dk_workers.proofs.Rounds.{worked_none, worked_then, works_then}
use Rattle.dk_workers.proofs.worker.work.Goals as goal

pub loop-init : goal.loop-init
loop-init g c = worked_none g.W.Hosting.opened g.J.Naming.name.passes c.args.pass.now

pub returns-in-Err : goal.returns-in-Err
returns-in-Err g c = record { works = works_then g.W.Hosting.opened g.J.Naming.name.passes c.in-Err.worked c.args.pass.now c.loop.pass c.work_next.new.pass c.loop.invariant c.in-Err.ensures.works }

pub loop-preserved : goal.loop-preserved
loop-preserved g c = worked_then g.W.Hosting.opened g.J.Naming.name.passes c.args.pass.now c.loop.pass c.work_next.new.pass c.loop.invariant c.in_default.ensures.works
