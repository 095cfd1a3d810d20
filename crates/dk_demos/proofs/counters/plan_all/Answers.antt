use Rattle.std.proofs.Common.{◌≡◌, ◌-◌, arith}
use Rattle.dk_txn.proofs.Kit.{give_does, stops, leads_then, leads_does}
use Rattle.dk_demos.proofs.Turns.{plan_turn}
use Rattle.dk_demos.proofs.counters.plan_all.Goals as goal

pub returns-in_err-plan : goal.returns-in_err-plan
returns-in_err-plan g c =
    leads_does (plan_turn c.args.seed c.args.tasks c.loop-before.before c.loop-before-test.true c.loop-before.invariant) (stops _ c.in_err-plan.ensures c.from_residual.ensures.1)

pub loop-before-preserved : goal.loop-before-preserved
loop-before-preserved g c = leads_then _ (plan_turn c.args.seed c.args.tasks c.loop-before.before c.loop-before-test.true c.loop-before.invariant) c.in_ok-plan.ensures

pub returns : goal.returns
returns g c =
    let none : c.args.tasks - c.loop-before.before ≡ 0 = omega arith in
    leads_does (rw none at c.loop-before.invariant) give_does
