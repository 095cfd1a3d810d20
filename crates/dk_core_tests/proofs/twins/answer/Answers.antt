use Rattle.std.proofs.Common.{◌≡◌, ◌-◌, arith}
use Rattle.dk_txn.proofs.Kit.{give_does, halts, leads_then, leads_does}
use Rattle.dk_core_tests.proofs.Answering.{at_turn}
use Rattle.dk_core_tests.proofs.twins.answer.Goals as goal

pub returns-in_err-send : goal.returns-in_err-send
returns-in_err-send g c =
    leads_does (at_turn c.args.conn c.args.messages c.loop-i.i c.loop-i-test.true c.loop-i.invariant) (halts _ (rw c.empty.ensures at c.in_err-send.ensures.does) c.from_residual.ensures.1)

pub loop-i-preserved : goal.loop-i-preserved
loop-i-preserved g c = leads_then _ (at_turn c.args.conn c.args.messages c.loop-i.i c.loop-i-test.true c.loop-i.invariant) (rw c.empty.ensures at c.in_ok-send.ensures.does)

pub returns : goal.returns
returns g c =
    let none : c.args.messages - c.loop-i.i ≡ 0 = omega arith in
    leads_does (rw none at c.loop-i.invariant) give_does
