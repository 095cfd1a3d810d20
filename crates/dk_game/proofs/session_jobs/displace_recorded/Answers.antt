use Rattle.dk_txn.proofs.Kit.{then_does, halts, give_does, if_true_does, if_false_does}
use Rattle.dk_game.proofs.SessionJobs.{displaced_does}
use Rattle.dk_game.proofs.session_jobs.displace_recorded.Goals as goal

pub returns-in_err-is_recorded-clause-does : goal.returns-in_err-is_recorded-clause-does
returns-in_err-is_recorded-clause-does g c = displaced_does _ _ (halts _ c.in_err-is_recorded.ensures.does c.from_residual.ensures.1)

pub returns-in_err-old-clause-does : goal.returns-in_err-old-clause-does
returns-in_err-old-clause-does g c = displaced_does _ _ (then_does _ c.in_ok-is_recorded.ensures.does (if_true_does _ c.if-branch.true (halts _ c.in_err-old.ensures.does c.from_residual-in_err-old.ensures.1)))

pub returns-in_ok-old-clause-does : goal.returns-in_ok-old-clause-does
returns-in_ok-old-clause-does g c = displaced_does _ _ (then_does _ c.in_ok-is_recorded.ensures.does (if_true_does _ c.if-branch.true (then_does _ c.in_ok-old.ensures.does c.displace.ensures.does)))

pub returns-else-branch-clause-does : goal.returns-else-branch-clause-does
returns-else-branch-clause-does g c = displaced_does _ _ (then_does _ c.in_ok-is_recorded.ensures.does (if_false_does _ c.if-branch.false give_does))
