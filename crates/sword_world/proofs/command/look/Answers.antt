use Rattle.dk_txn.proofs.Kit.{then_does, give_does, stops}
use Rattle.sword_world.specs.Rules.{look}
use Rattle.sword_world.proofs.Parts.{starves}
use Rattle.sword_world.proofs.command.look.Goals as goal

pub returns-in_err-names : goal.returns-in_err-names
unfolding look
returns-in_err-names g c = stops _ c.in_err-names.ensures c.from_residual.ensures.1

pub returns-in_err-things : goal.returns-in_err-things
unfolding look
returns-in_err-things g c = then_does _ c.in_ok-names.ensures (stops _ c.in_err-things.ensures c.from_residual-in_err-things.ensures.1)

pub returns-in_err-look_body : goal.returns-in_err-look_body
unfolding look
returns-in_err-look_body g c = then_does _ c.in_ok-names.ensures (then_does _ c.in_ok-things.ensures (starves c.from_residual-in_err-look_body.ensures.1))

pub returns : goal.returns
unfolding look
returns g c = rw c.in_ok-look_body.ensures (then_does _ c.in_ok-names.ensures (then_does _ c.in_ok-things.ensures give_does))
