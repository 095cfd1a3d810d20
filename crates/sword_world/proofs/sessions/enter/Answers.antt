use Rattle.dk_txn.proofs.Kit.{then_does, then_last, stops, halts_last}
use Rattle.sword_world.specs.Rules.{enter}
use Rattle.sword_world.proofs.sessions.enter.Goals as goal

pub returns-in_err-place : goal.returns-in_err-place
unfolding enter
returns-in_err-place g c = stops _ c.in_err-place.ensures c.from_residual.ensures.1

pub returns-in_err-save : goal.returns-in_err-save
unfolding enter
returns-in_err-save g c = then_does _ c.in_ok-place.ensures (halts_last (rw c.in_ok-room.ensures at c.in_err-save.ensures.does) c.from_residual-in_err-save.ensures.1)

pub returns : goal.returns
unfolding enter
returns g c = then_does _ c.in_ok-place.ensures (then_last (rw c.in_ok-room.ensures at c.in_ok-save.ensures.does))
