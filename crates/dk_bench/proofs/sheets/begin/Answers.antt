use Rattle.std.proofs.Common.{◌≡◌, ◌-◌, arith}
use Rattle.dk_txn.proofs.Kit.{give_does, stops, leads_then, leads_does}
use Rattle.dk_bench.proofs.Turns.{plan_turn}
use Rattle.dk_bench.proofs.sheets.begin.Goals as goal

pub returns-in_err-plan : goal.returns-in_err-plan
returns-in_err-plan g c = leads_does (plan_turn c.args.sheets c.args.times c.loop-planned.planned c.loop-planned-test.true c.loop-planned.invariant) (stops _ c.in_err-plan.ensures c.from_residual.ensures.1)

pub loop-planned-preserved : goal.loop-planned-preserved
loop-planned-preserved g c = leads_then _ (plan_turn c.args.sheets c.args.times c.loop-planned.planned c.loop-planned-test.true c.loop-planned.invariant) c.in_ok-plan.ensures

pub returns : goal.returns
returns g c =
    let none : c.args.sheets - c.loop-planned.planned ≡ 0 = omega arith in
    leads_does (rw none at c.loop-planned.invariant) give_does
