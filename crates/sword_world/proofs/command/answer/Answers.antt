use Rattle.dk_txn.proofs.Kit.{then_does, then_last, stops, halts_last}
use Rattle.sword_world.specs.Rules.{answer}
use Rattle.sword_world.proofs.command.answer.Goals as goal

pub returns-in_err-scene : goal.returns-in_err-scene
unfolding answer
returns-in_err-scene g c = stops _ c.in_err-scene.ensures c.from_residual.ensures.1

pub returns-in_err-text : goal.returns-in_err-text
unfolding answer
returns-in_err-text g c = then_does _ c.in_ok-scene.ensures (stops _ c.in_err-text.ensures c.from_residual-in_err-text.ensures.1)

pub returns-in_err-send : goal.returns-in_err-send
unfolding answer
returns-in_err-send g c = then_does _ c.in_ok-scene.ensures (then_does _ c.in_ok-text.ensures (halts_last c.in_err-send.ensures.does c.from_residual-in_err-send.ensures.1))

pub returns : goal.returns
unfolding answer
returns g c = then_does _ c.in_ok-scene.ensures (then_does _ c.in_ok-text.ensures (then_last c.in_ok-send.ensures.does))
