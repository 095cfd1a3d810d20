use Rattle.std.proofs.Common.{◌≡◌, ◌-◌, arith}
use Rattle.dk_txn.proofs.Kit.{give_does, stops, leads_then, leads_does}
use Rattle.dk_bench.proofs.Turns.{schedule_turn}
use Rattle.dk_bench.proofs.sheets.schedule_each.Goals as goal

pub returns-in_err-schedule_one : goal.returns-in_err-schedule_one
returns-in_err-schedule_one g c = leads_does (schedule_turn c.args.id c.args.times c.loop-scheduled.scheduled c.loop-scheduled-test.true c.loop-scheduled.invariant) (stops _ c.in_err-schedule_one.ensures c.from_residual.ensures.1)

pub loop-scheduled-preserved : goal.loop-scheduled-preserved
loop-scheduled-preserved g c = leads_then _ (schedule_turn c.args.id c.args.times c.loop-scheduled.scheduled c.loop-scheduled-test.true c.loop-scheduled.invariant) c.in_ok-schedule_one.ensures

pub returns : goal.returns
returns g c =
    let none : c.args.times - c.loop-scheduled.scheduled ≡ 0 = omega arith in
    leads_does (rw none at c.loop-scheduled.invariant) give_does
