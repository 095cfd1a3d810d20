use Rattle.std.proofs.Common.{sym, ap, ◌∙◌}
use Rattle.dk_tasks.proofs.Kept.{kept_len}
use Rattle.dk_tasks.proofs.tasks.Tasks.is_empty.Goals as goal

pub returns : goal.returns
returns c =
    let same = kept_len _ (ap (λ s. s.tasks) c.self.view_is) c.self.invariant.0.ordered in
    (λ t. sym same ∙ c.is_empty.ensures.0 t, λ e. c.is_empty.ensures.1 (same ∙ e))
