use Rattle.std.proofs.Common.{◌≡◌, sym, ◌∙◌, None, Some}
use Rattle.dk_txn.proofs.Kit.{give_does, does_as}
use Rattle.sword_world.proofs.Commands.{messaged}
use Rattle.sword_world.proofs.game.message.Goals as goal

pub returns-in-None : goal.returns-in-None
returns-in-None g c = does_as _ (messaged c.args.conn c.args.name.now c.args.body.now None (sym c.of.ensures ∙ c.in-None.is)) give_does

pub returns-in-Some : goal.returns-in-Some
returns-in-Some g c = does_as _ (messaged c.args.conn c.args.name.now c.args.body.now (Some c.in-Some.command) (sym c.of.ensures ∙ c.in-Some.is)) c.answer.ensures
