use Rattle.std.proofs.Common.{◌∙◌}
use Rattle.dk_txn.proofs.Kit.{stops, give_does, leads_does, leads_then, same_error, keeps_all}
use Rattle.dk_txn.proofs.ObjectCalls.{forgotten}
use Rattle.dk_game.proofs.SessionJobs.{at_channel, at_end}
use Rattle.dk_game.proofs.session_jobs.leave_channels.Goals as goal

pub returns-in_err-clone-clause-does : goal.returns-in_err-clone-clause-does
returns-in_err-clone-clause-does g c = leads_does c.loop-name.invariant.0 (same_error (forgotten keeps_all) c.from_residual.ensures.1)

pub returns-in_err-leave-clause-does : goal.returns-in_err-leave-clause-does
returns-in_err-leave-clause-does g c = leads_does (at_channel c.args.session.now c.args.channels.now c.loop-name.name-index _ _ c.loop-name-test.true (c.in_ok-clone.ensures.cases ∙ c.name-item.is) c.loop-name.invariant.0) (stops _ c.in_err-leave.ensures.does c.from_residual-in_err-leave.ensures.1)

pub loop-name-preserved : goal.loop-name-preserved
loop-name-preserved g c = (leads_then _ (at_channel c.args.session.now c.args.channels.now c.loop-name.name-index _ _ c.loop-name-test.true (c.in_ok-clone.ensures.cases ∙ c.name-item.is) c.loop-name.invariant.0) c.in_ok-leave.ensures.does, c.in_ok-leave.ensures.same_mode ∙ c.loop-name.invariant.1)

pub returns-clause-does : goal.returns-clause-does
returns-clause-does g c = leads_does (at_end c.args.session.now c.args.channels.now c.loop-name.name-index c.loop-name-test.false c.loop-name.invariant.0) give_does
