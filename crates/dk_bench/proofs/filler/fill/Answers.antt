use Rattle.std.proofs.Common.{◌≡◌, ◌-◌, arith}
use Rattle.dk_txn.proofs.Kit.{give_does, halts, leads_then, leads_does}
use Rattle.dk_bench.proofs.Turns.{fill_turn}
use Rattle.dk_bench.proofs.filler.fill.Goals as goal

pub returns-in_err-create : goal.returns-in_err-create
returns-in_err-create g c =
    leads_does (fill_turn c.args.objects c.loop-made.made c.loop-made-test.true c.loop-made.invariant) (halts _ (rw c.empty.ensures at c.in_err-create.ensures.does) c.from_residual.ensures.1)

pub loop-made-preserved : goal.loop-made-preserved
loop-made-preserved g c = leads_then _ (fill_turn c.args.objects c.loop-made.made c.loop-made-test.true c.loop-made.invariant) (rw c.empty.ensures at c.in_ok-create.ensures.does)

pub returns : goal.returns
returns g c =
    let none : c.args.objects - c.loop-made.made ≡ 0 = omega arith in
    leads_does (rw none at c.loop-made.invariant) give_does
