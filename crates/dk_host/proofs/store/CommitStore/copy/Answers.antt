use Rattle.std.proofs.Common.{◌≡◌, None, sym, ap, subst, ◌∙◌}
use Rattle.dk_host.specs.Calls.{IsCopyAt}
use Rattle.dk_host.specs.Stores.{Stored}
use Rattle.dk_host.proofs.Copying.{seen_stored, seen_entered}
use Rattle.dk_host.proofs.Storing.{as_waiting, as_front}
use Rattle.dk_host.proofs.store.CommitStore.copy.Goals as goal

pub with_watcher-right-requires : goal.with_watcher-right-requires
with_watcher-right-requires g c = λ log goes other. (c.lend-right.ensures.commits.0 ∙ c.self.invariant.0, c.lend-right.ensures.places.0 ∙ c.self.invariant.1)

pub invariant_of-self : goal.invariant_of-self
invariant_of-self g c =
    let none : c.self.inside.waiting ≡ None = ap (λ (v : Stored). v.waiting) c.self.view_is ∙ c.requires.none_waits in (
      c.with_watcher-right.ensures.called.given.1.2.0,
      c.with_watcher-right.ensures.called.given.1.2.1,
      c.self.invariant.2,
      as_front _ _ (sym c.with_watcher-right.ensures.same)
          (as_waiting _ _ (sym none) (seen_stored g.W.Hosting.opened _ _ _ _ _ _ _ _ _ _ _ (as_waiting _ _ none c.self.invariant.3) c.args.pass.now _ _ _ c.lend-right.ensures.commits.1 _ _ _ _ _ (λ before added h. h.sees) c.with_watcher-right.ensures.called)),
      c.self.invariant.4,
    )

pub returns-clause-entered : goal.returns-clause-entered
returns-clause-entered g c =
    let none : c.self.inside.waiting ≡ None = ap (λ (v : Stored). v.waiting) c.self.view_is ∙ c.requires.none_waits in
    seen_entered g.W.Hosting.opened _ _ _ _ _ _ _ _ _ _ _ (as_waiting _ _ none c.self.invariant.3) c.args.pass.now _ _ _ c.lend-right.ensures.commits.1 _ _ _ _ _ (λ before added h. h.sees) c.with_watcher-right.ensures.called

pub returns-clause-copied : goal.returns-clause-copied
returns-clause-copied g c = subst (λ es. IsCopyAt g.W.Hosting.opened es c.with_watcher-right.result.1) (sym c.with_watcher-right.ensures.called.front) c.with_watcher-right.ensures.called.given.1.3.copied
