use Rattle.dk_txn.proofs.Kit.{then_does, halts, stops, halts_last, then_last}
use Rattle.dk_game.proofs.session_jobs.end_session.Goals as goal

pub returns-in_err-game_part-clause-does : goal.returns-in_err-game_part-clause-does
returns-in_err-game_part-clause-does g c = stops _ c.in_err-game_part.ensures.does c.from_residual.ensures.1

pub returns-in_err-record-clause-does : goal.returns-in_err-record-clause-does
returns-in_err-record-clause-does g c = then_does _ c.in_ok-game_part.ensures.does (halts _ c.in_err-record.ensures.does c.from_residual-in_err-record.ensures.1)

pub returns-in_err-leave_channels-clause-does : goal.returns-in_err-leave_channels-clause-does
returns-in_err-leave_channels-clause-does g c = then_does _ c.in_ok-game_part.ensures.does (then_does _ c.in_ok-record.ensures.does (halts _ (rw c.as_slice.ensures at c.in_err-leave_channels.ensures.does) c.from_residual-in_err-leave_channels.ensures.1))

pub returns-in_err-close_record-clause-does : goal.returns-in_err-close_record-clause-does
returns-in_err-close_record-clause-does g c = then_does _ c.in_ok-game_part.ensures.does (then_does _ c.in_ok-record.ensures.does (then_does _ (rw c.as_slice.ensures at c.in_ok-leave_channels.ensures.does) (halts_last c.in_err-close_record.ensures.does c.from_residual-in_err-close_record.ensures.1)))

pub returns-clause-does : goal.returns-clause-does
returns-clause-does g c = then_does _ c.in_ok-game_part.ensures.does (then_does _ c.in_ok-record.ensures.does (then_does _ (rw c.as_slice.ensures at c.in_ok-leave_channels.ensures.does) (then_last c.in_ok-close_record.ensures.does)))
