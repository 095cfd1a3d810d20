use Rattle.std.proofs.Common.{sym, ap, ◌∙◌}
use Rattle.std.specs.FinMap as map
use Rattle.dk_types.specs.declared.item.Item.TheVariants as ask
use Rattle.dk_overlay.specs.Answers.{is_pending}
use Rattle.dk_txn.proofs.Answering.{is_pending-answer}
use Rattle.dk_txn.proofs.Agreeing.{agrees_read}
use Rattle.dk_txn.proofs.ending.was_pending.Goals as goal

pub returns-in-None : goal.returns-in-None
returns-in-None c = λ asked d agrees. absurd (c.in-None.ensures.none asked.0 asked.1)

pub returns : goal.returns
returns c = λ asked d agrees.
    sym (is_pending-answer (map.get d.tasks c.args.key))
    ∙ ap is_pending (agrees_read d c.args.set.now.reads (ask.Task c.args.key) c.in-Some.read.now agrees c.in-Some.ensures.some)
    ∙ sym c.says_pending.ensures
