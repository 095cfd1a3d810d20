use Rattle.std.proofs.Common.{◌≡◌, sym, ap, subst, ◌∙◌}
use Rattle.dk_overlay.specs.ReadsAndWrites.{nothing_done}
use Rattle.dk_txn.specs.Current.{passing_own}
use Rattle.dk_txn.specs.Finishes.{IsKept}
use Rattle.dk_txn.proofs.RunEnds.{kept_passed, kept_absent, kept_default}
use Rattle.dk_txn.proofs.ending.kept.Goals as goal
use Rattle.dk_txn.proofs.ending.kept.Goals.{in-Task+then-was_pending+in_ok-pass_own_task, in-Task+else-was_pending, in_default}

pub returns : goal.returns
returns c =
    let t = c.args.set.now in
    let start : c.new-kept.result ≡ nothing_done t.run t.at = c.new-kept.ensures ∙ ap (λ r. nothing_done r c.at.result) c.run.ensures ∙ ap (nothing_done t.run) c.at.ensures.is in
    elim c.match-job.branch [
      | in-Task+then-was_pending+in_ok-pass_own_task w ↦
          let j = w.in-Task in
          subst (λ x. IsKept t x c.match-job.kept) (sym j.is)
          (kept_passed t j.key j.due j.period j.kind j.arg c.match-job.kept w.if-was_pending.ensures
          (λ fits. w.kept-is ∙ w.in_ok-pass_own_task.ensures.ok fits ∙ ap (λ k. passing_own k j.key j.due j.period) start))
      | in-Task+else-was_pending w ↦
          let j = w.in-Task in
          subst (λ x. IsKept t x c.match-job.kept) (sym j.is)
          (subst (IsKept t _) (sym (w.kept-is ∙ start)) (kept_absent t j.key j.due j.period j.kind j.arg w.if-was_pending.ensures))
      | in_default w ↦ subst (IsKept t c.args.job.now) (sym (w.kept-is ∙ start)) (kept_default t c.args.job.now w.in_default.not-Task)
    ]
