use Rattle.std.proofs.Common.{sym, ap, ◌∙◌}
use Rattle.std.specs.FinMap as map
use Rattle.dk_overlay.specs.Changes.{settled}
use Rattle.dk_overlay.specs.ReadsAndWrites.{ReadsAndWrites}
use Rattle.dk_txn.proofs.TaskCalls.{task_settled, task_asked}
use Rattle.dk_txn.proofs.tasks.Txn+V.is_pending.Goals as goal

pub returns-in-Some-clause-known : goal.returns-in-Some-clause-known
returns-in-Some-clause-known g c = task_settled c.args.self.now.set c.args.key c.in-Some.there (sym c.in-Some.ensures)

pub returns-in_ok-said-in-None-clause-known : goal.returns-in_ok-said-in-None-clause-known
returns-in_ok-said-in-None-clause-known g c =
    task_asked c.ask.new.self.set c.args.key c.in_ok-said-in-None.said c.says_pending.result
    (ap (λ (t : ReadsAndWrites). settled (map.get t.tasks c.args.key)) c.ask.ensures.same_changes ∙ sym c.in-None.ensures)
    c.says_pending.ensures c.in_ok-said-in-None.ensures.answers
