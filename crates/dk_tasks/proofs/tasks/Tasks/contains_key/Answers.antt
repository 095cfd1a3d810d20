use Rattle.std.proofs.Common.{ap, ◌∙◌}
use Rattle.dk_tasks.proofs.Kept.{kept_some}
use Rattle.dk_tasks.proofs.tasks.Tasks.contains_key.Goals as goal

pub returns : goal.returns
returns c = c.contains_key.ensures ∙ kept_some _ (ap (λ s. s.tasks) c.self.view_is) c.self.invariant.0.ordered c.args.key
