use Rattle.dk_txn.proofs.Kit.{then_does, halts, stops}
use Rattle.dk_game.proofs.session_jobs.login.Goals as goal

pub returns-in_err-displace_recorded-clause-does : goal.returns-in_err-displace_recorded-clause-does
returns-in_err-displace_recorded-clause-does g c = stops _ c.in_err-displace_recorded.ensures.does c.from_residual.ensures.1

pub returns-in_err-open_record-clause-does : goal.returns-in_err-open_record-clause-does
returns-in_err-open_record-clause-does g c = then_does _ c.in_ok-displace_recorded.ensures.does (halts _ c.in_err-open_record.ensures.does c.from_residual-in_err-open_record.ensures.1)

pub returns-in_err-send-clause-does : goal.returns-in_err-send-clause-does
returns-in_err-send-clause-does g c = then_does _ c.in_ok-displace_recorded.ensures.does (then_does _ c.in_ok-open_record.ensures.does (halts _ c.in_err-send.ensures.does c.from_residual-in_err-send.ensures.1))

pub returns-clause-does : goal.returns-clause-does
returns-clause-does g c = then_does _ c.in_ok-displace_recorded.ensures.does (then_does _ c.in_ok-open_record.ensures.does (then_does _ c.in_ok-send.ensures.does c.game_part.ensures.does))
