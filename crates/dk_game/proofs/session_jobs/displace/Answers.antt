use Rattle.dk_txn.proofs.Kit.{then_does, stops, halts_last, then_last}
use Rattle.dk_game.proofs.session_jobs.displace.Goals as goal

pub returns-in_err-end_session-clause-does : goal.returns-in_err-end_session-clause-does
returns-in_err-end_session-clause-does g c = stops _ (rw c.in_ok-clone.ensures.cases at c.in_err-end_session.ensures.does) c.from_residual-in_err-end_session.ensures.1

pub returns-in_err-send-clause-does : goal.returns-in_err-send-clause-does
returns-in_err-send-clause-does g c = then_does _ (rw c.in_ok-clone.ensures.cases at c.in_ok-end_session.ensures.does) (halts_last c.in_err-send.ensures.does c.from_residual-in_err-send.ensures.1)

pub returns-clause-does : goal.returns-clause-does
returns-clause-does g c = then_does _ (rw c.in_ok-clone.ensures.cases at c.in_ok-end_session.ensures.does) (then_last c.in_ok-send.ensures.does)
