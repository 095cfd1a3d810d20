use Rattle.std.proofs.Common.{◌≡◌}
use Rattle.dk_tasks.specs.Places.{due_at}
use Rattle.dk_tasks.proofs.Moves.{moved}
use Rattle.dk_tasks.proofs.tasks.set_due.Goals as goal

pub returns-clause-moved : goal.returns-clause-moved
returns-clause-moved c =
    moved c.args.due c.args.key _ _ _ c.change.result c.change.ensures.changed
    (λ x y a p. let met = p.met in let is : y ≡ due_at c.args.due x = cc in let was : a ≡ (x.task.due, x.claimed) = cc in (is, was))
