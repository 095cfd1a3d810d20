use Rattle.dk_txn.proofs.Kit.{then_does, give_does, stops, halts}
use Rattle.sword_world.specs.Rules.{pick_up}
use Rattle.sword_world.proofs.Parts.{starves}
use Rattle.sword_world.proofs.command.pick_up.Goals as goal

pub returns-in_err-thing : goal.returns-in_err-thing
unfolding pick_up
returns-in_err-thing g c = stops _ c.in_err-thing.ensures c.from_residual.ensures.1

pub returns-in_err-save : goal.returns-in_err-save
unfolding pick_up
returns-in_err-save g c = then_does _ c.in_ok-thing.ensures (halts _ (rw c.without_first_item.ensures at c.in_err-save.ensures.does) c.from_residual-in_err-save.ensures.1)

pub returns-in_err-save-2 : goal.returns-in_err-save-2
unfolding pick_up
returns-in_err-save-2 g c =
    then_does _ c.in_ok-thing.ensures (then_does _ (rw c.without_first_item.ensures at c.in_ok-save.ensures.does)
    (halts _ (rw c.carrying.ensures at c.in_err-save-2.ensures.does) c.from_residual-in_err-save-2.ensures.1))

pub returns-in_err-take_body : goal.returns-in_err-take_body
unfolding pick_up
returns-in_err-take_body g c =
    then_does _ c.in_ok-thing.ensures (then_does _ (rw c.without_first_item.ensures at c.in_ok-save.ensures.does)
    (then_does _ (rw c.carrying.ensures at c.in_ok-save-2.ensures.does) (starves c.from_residual-in_err-take_body.ensures.1)))

pub returns : goal.returns
unfolding pick_up
returns g c =
    rw c.in_ok-take_body.ensures (then_does _ c.in_ok-thing.ensures (then_does _ (rw c.without_first_item.ensures at c.in_ok-save.ensures.does)
    (then_does _ (rw c.carrying.ensures at c.in_ok-save-2.ensures.does) give_does)))
