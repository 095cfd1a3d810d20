use Rattle.std.proofs.Common.{◌≡◌, ◌-◌, arith}
use Rattle.dk_txn.proofs.Kit.{give_does, stops, leads_then, leads_does}
use Rattle.dk_demos.proofs.Turns.{make_turn}
use Rattle.dk_demos.proofs.counters.make_all.Goals as goal

pub returns-in_err-make : goal.returns-in_err-make
returns-in_err-make g c = leads_does (make_turn 16 c.loop-number.number c.loop-number-test.true c.loop-number.invariant) (stops _ c.in_err-make.ensures c.from_residual.ensures.1)

pub loop-number-preserved : goal.loop-number-preserved
loop-number-preserved g c = leads_then _ (make_turn 16 c.loop-number.number c.loop-number-test.true c.loop-number.invariant) c.in_ok-make.ensures

pub returns : goal.returns
returns g c =
    let none : 16 - c.loop-number.number ≡ 0 = omega arith in
    leads_does (rw none at c.loop-number.invariant) give_does
