use Rattle.std.proofs.Common.{◌≡◌, sym, ◌∙◌}
use Rattle.dk_txn.proofs.Kit.{then_does, give_does, stops, does_as}
use Rattle.sword_world.proofs.Commands.{already, taken_first, taken_none}
use Rattle.sword_world.proofs.command.take.Goals as goal

pub returns-in_err-thing-in-Some : goal.returns-in_err-thing-in-Some
returns-in_err-thing-in-Some g c = does_as _ (already c.args.scene c.in-Some.item c.in-Some.is) (stops _ c.in_err-thing-in-Some.ensures c.from_residual.ensures.1)

pub returns-in_ok-already_body-in-Some : goal.returns-in_ok-already_body-in-Some
returns-in_ok-already_body-in-Some g c =
    rw c.in_ok-already_body-in-Some.ensures (does_as _ (already c.args.scene c.in-Some.item c.in-Some.is) (then_does _ c.in_ok-thing-in-Some.ensures give_does))

pub returns-in-Some-first_item : goal.returns-in-Some-first_item
returns-in-Some-first_item g c = does_as _ (taken_first c.args.scene c.in-Some-first_item.item c.in-None.is (sym c.first_item.ensures ∙ c.in-Some-first_item.is)) c.pick_up.ensures

pub returns-in_ok-bare_body-in-None-first_item : goal.returns-in_ok-bare_body-in-None-first_item
returns-in_ok-bare_body-in-None-first_item g c =
    rw c.in_ok-bare_body-in-None-first_item.ensures (does_as _ (taken_none c.args.scene c.in-None.is (sym c.first_item.ensures ∙ c.in-None-first_item.is)) give_does)
