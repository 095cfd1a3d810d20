use Rattle.dk_workers.proofs.Tries.{committed_behind, given_behind}
use Rattle.dk_workers.proofs.worker.end_claimed.Goals as goal

pub returns-in-Committed-clause-ends : goal.returns-in-Committed-clause-ends
returns-in-Committed-clause-ends g c =
    committed_behind g.W.Hosting.opened c.args.pass.now c.loop.pass c.args.claimed c.loop.claimed c.try_run.new.pass.front c.loop.invariant.number c.loop.invariant.same c.loop.invariant.goes c.in-Committed.ensures.ends

pub returns-in-GivenUp-clause-ends : goal.returns-in-GivenUp-clause-ends
returns-in-GivenUp-clause-ends g c =
    given_behind g.W.Hosting.opened c.args.pass.now c.loop.pass c.args.claimed c.loop.claimed c.in-GivenUp.worked c.try_run.new.pass.front c.loop.invariant.number c.loop.invariant.same c.loop.invariant.goes c.in-GivenUp.ensures.ends
