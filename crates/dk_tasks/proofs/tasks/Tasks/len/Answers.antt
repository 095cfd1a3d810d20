use Rattle.std.proofs.Common.{ap, ◌∙◌}
use Rattle.dk_tasks.proofs.Kept.{kept_len}
use Rattle.dk_tasks.proofs.tasks.Tasks.len.Goals as goal

pub returns : goal.returns
returns c = c.len.ensures.len ∙ kept_len _ (ap (λ s. s.tasks) c.self.view_is) c.self.invariant.0.ordered
