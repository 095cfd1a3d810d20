use Rattle.std.proofs.Common.{◌≡◌}
use Rattle.dk_tasks.specs.Places.{claimed_at}
use Rattle.dk_tasks.proofs.Marks.{marked}
use Rattle.dk_tasks.proofs.tasks.set_claim.Goals as goal

pub returns-clause-marked : goal.returns-clause-marked
returns-clause-marked c =
    marked c.args.claimed c.args.key _ _ _ c.change.result c.change.ensures.changed
    (λ x y a p. let met = p.met in let is : y ≡ claimed_at c.args.claimed x = cc in let was : a ≡ (x.task.due, x.claimed) = cc in (is, was))
