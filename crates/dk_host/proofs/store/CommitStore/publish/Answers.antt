use Rattle.std.proofs.Common.{◌≡◌, Some, sym, ap, ◌∙◌}
use Rattle.dk_host.specs.Stores.{Stored}
use Rattle.dk_host.proofs.Storing.{as_waiting, as_front}
use Rattle.dk_host.proofs.Published.{may_publish, published_stored, published_entered, waits_next}
use Rattle.dk_host.proofs.store.CommitStore.publish.Goals as goal

pub with_watcher-right-requires : goal.with_watcher-right-requires
with_watcher-right-requires g c =
    let o = g.W.Hosting.opened in
    let some : c.self.inside.waiting ≡ Some c.in-Some.prepared = sym c.take.ensures.value ∙ c.in-Some.is in
    let next = waits_next o c.args.self.now c.args.claimed c.args.finished c.requires.waits c.in-Some.prepared c.self.inside.watcher.front (ap (λ (v : Stored). v.waiting) (sym c.self.view_is) ∙ some) (ap (λ (v : Stored). v.watcher.front) (sym c.self.view_is)) in
    λ log goes other. (
      c.lend-right.ensures.commits.0 ∙ c.self.invariant.0,
      c.lend-right.ensures.places.0 ∙ c.self.invariant.1,
      may_publish o _ _ _ _ _ _ _ _ _ _ _ c.args.claimed c.args.finished c.in-Some.prepared (as_waiting _ _ some c.self.invariant.3) next c.args.pass.now c.requires.claim c.requires.honest log goes other _ _ (c.lend-right.ensures.commits.1)
          (c.lend-right.ensures.places.1 ∙ ap (λ (v : Stored). v.room) c.self.view_is ∙ c.requires.waits.1.1.1),
    )

pub invariant_of-self-2 : goal.invariant_of-self-2
invariant_of-self-2 g c =
    let o = g.W.Hosting.opened in
    let some : c.self.inside.waiting ≡ Some c.in-Some.prepared = sym c.take.ensures.value ∙ c.in-Some.is in
    let next = waits_next o c.args.self.now c.args.claimed c.args.finished c.requires.waits c.in-Some.prepared c.self.inside.watcher.front (ap (λ (v : Stored). v.waiting) (sym c.self.view_is) ∙ some) (ap (λ (v : Stored). v.watcher.front) (sym c.self.view_is)) in (
      c.with_watcher-right.ensures.called.given.1.0,
      c.with_watcher-right.ensures.called.given.1.1,
      c.self.invariant.2,
      as_front _ _ (sym c.with_watcher-right.ensures.same) (as_waiting _ _ (sym c.take.ensures.after) (published_stored o _ _ _ _ _ _ _ _ _ _ _ c.args.claimed c.args.finished c.in-Some.prepared (as_waiting _ _ some c.self.invariant.3) next c.args.pass.now c.requires.claim _ _ c.lend-right.ensures.commits.1 _ _ _ _ _ c.with_watcher-right.ensures.called)),
      c.self.invariant.4,
    )

pub returns-clause-entered : goal.returns-clause-entered
returns-clause-entered g c =
    let o = g.W.Hosting.opened in
    let some : c.self.inside.waiting ≡ Some c.in-Some.prepared = sym c.take.ensures.value ∙ c.in-Some.is in
    let next = waits_next o c.args.self.now c.args.claimed c.args.finished c.requires.waits c.in-Some.prepared c.self.inside.watcher.front (ap (λ (v : Stored). v.waiting) (sym c.self.view_is) ∙ some) (ap (λ (v : Stored). v.watcher.front) (sym c.self.view_is)) in
    published_entered o _ _ _ _ _ _ _ _ _ _ _ c.args.claimed c.args.finished c.in-Some.prepared (as_waiting _ _ some c.self.invariant.3) next c.args.pass.now c.requires.claim _ _ c.lend-right.ensures.commits.1 _ _ _ _ _ c.with_watcher-right.ensures.called
