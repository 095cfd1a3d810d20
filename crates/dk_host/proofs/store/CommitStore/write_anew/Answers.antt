use Rattle.std.proofs.Common.{◌≡◌, None, Some, sym, ap, subst, ◌∙◌, arith}
use Rattle.dk_types.specs.declared.durable.Durable.{Durable}
use Rattle.dk_model.specs.Images.{world_lists}
use Rattle.dk_model.specs.Legal.{world_after}
use Rattle.dk_checkpoint.specs.Refusals.{HasBegun}
use Rattle.dk_host.specs.Checkpoints.{faults_after}
use Rattle.dk_host.specs.Stores.{Stored}
use Rattle.dk_host.proofs.Homes.{as_stopped, rewritten_home}
use Rattle.dk_host.proofs.Rewriting.{store_anew, store_refused, at_ok, world_within}
use Rattle.dk_host.proofs.Storing.{as_waiting, as_faults}
use Rattle.dk_host.proofs.store.CommitStore.write_anew.Goals as goal

pub invariant_of-self : goal.invariant_of-self
invariant_of-self g c =
    let o = g.W.Hosting.opened in
    let none : c.self.inside.waiting ≡ None = ap (λ (v : Stored). v.waiting) c.self.view_is ∙ c.requires.none_waits in
    let running : c.self.inside.faults ≡ None = ap (λ (v : Stored). v.faults) c.self.view_is ∙ c.requires.running in
    let given = c.requires.given ∙ ap (λ (v : Stored). world_lists (world_after o v.watcher.front).durable) (sym c.self.view_is) in (
      c.self.invariant.0,
      c.self.invariant.1,
      c.self.invariant.2,
      as_waiting _ _ (sym none) (as_faults _ _ (ap (λ r. faults_after r c.faults.result) (sym c.in_err-journal.was) ∙ sym c.stop_after-self-inside.ensures)
          (store_refused o _ _ _ _ _ _ _ _ _ _ _ _ (as_faults _ _ running (as_waiting _ _ none c.self.invariant.3)) c.self.invariant.2.here given _ _ c.checkpoint-answer.ensures.opening c.checkpoint-answer.ensures.run c.checkpoint-answer.ensures.falls c.in_err-journal.field-0.0 c.faults.result
          (λ early. ap g.M.Home.past (c.checkpoint-answer.ensures.untouched (λ began. early (subst HasBegun c.in_err-journal.was began)))))),
      as_stopped _ _ (sym c.stop_after-self-inside.ensures)
          (rewritten_home _ _ _ _ _ _ _ (as_stopped _ _ running c.self.invariant.4) c.checkpoint-answer.ensures.opening c.checkpoint-answer.result c.checkpoint-answer.ensures.cause c.checkpoint-answer.ensures.steady),
    )

pub invariant_of-self-2 : goal.invariant_of-self-2
invariant_of-self-2 g c =
    let o = g.W.Hosting.opened in
    let none : c.self.inside.waiting ≡ None = ap (λ (v : Stored). v.waiting) c.self.view_is ∙ c.requires.none_waits in
    let running : c.self.inside.faults ≡ None = ap (λ (v : Stored). v.faults) c.self.view_is ∙ c.requires.running in
    let given = c.requires.given ∙ ap (λ (v : Stored). world_lists (world_after o v.watcher.front).durable) (sym c.self.view_is) in
    let made = at_ok _ _ _ c.in_ok-journal.was c.checkpoint-answer.ensures.journal in (
      c.self.invariant.0,
      c.self.invariant.1,
      record { here = made.1; same = c.self.invariant.2.same; later = omega (arith, made.2, c.self.invariant.2.later); most = λ n is. world_within o _ _ _ _ _ _ _ _ _ _ c.self.invariant.3 c.args.durable.now given n is },
      as_waiting _ _ (sym none) (as_faults _ _ (ap (λ r. faults_after r c.faults.result) (sym c.in_ok-journal.was) ∙ sym c.stop_after-self-inside.ensures)
          (store_anew o _ _ _ _ _ _ _ _ _ _ _ _ (as_faults _ _ running (as_waiting _ _ none c.self.invariant.3)) c.self.invariant.2.here given _ _ c.checkpoint-answer.ensures.opening c.checkpoint-answer.ensures.run c.checkpoint-answer.ensures.falls c.in_ok-journal.journal c.in_ok-journal.side (Some c.args.durable.now.commits) (λ n is. let one : c.args.durable.now.commits ≡ n = cc in ap (λ (x : Durable). x.commits) (sym given) ∙ one) made.1 made.3
          (λ tells. at_ok _ _ _ c.in_ok-journal.was (c.checkpoint-answer.ensures.stands tells)))),
      as_stopped _ _ (sym c.stop_after-self-inside.ensures)
          (rewritten_home _ _ _ _ _ _ _ (as_stopped _ _ running c.self.invariant.4) c.checkpoint-answer.ensures.opening c.checkpoint-answer.result c.checkpoint-answer.ensures.cause c.checkpoint-answer.ensures.steady),
    )
