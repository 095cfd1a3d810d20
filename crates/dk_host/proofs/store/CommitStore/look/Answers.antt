use Rattle.std.proofs.Common.{◌≡◌, None, sym, ap, ◌∙◌}
use Rattle.dk_host.specs.Stores.{Stored}
use Rattle.dk_host.proofs.Calling.{may_end, honest_later}
use Rattle.dk_host.proofs.Storing.{as_waiting, as_front}
use Rattle.dk_host.proofs.Looked.{looked_stored, looked_entered, looked_next}
use Rattle.dk_host.proofs.store.CommitStore.look.Goals as goal

pub with_watcher-right-requires : goal.with_watcher-right-requires
with_watcher-right-requires g c = λ log goes other. (
  c.lend-right.ensures.commits.0 ∙ c.self.invariant.0,
  c.lend-right.ensures.places.0 ∙ c.self.invariant.1,
  (may_end g.W.Hosting.opened c.args.pass.now c.args.claimed.now log c.requires.claim goes, honest_later g.W.Hosting.opened c.args.pass.now c.args.claimed.now c.args.finished.now log c.requires.honest goes),
)

pub invariant_of-self : goal.invariant_of-self
invariant_of-self g c =
    let none : c.self.inside.waiting ≡ None = ap (λ (v : Stored). v.waiting) c.self.view_is ∙ c.requires.none_waits in (
      c.with_watcher-right.ensures.called.given.1.0,
      c.with_watcher-right.ensures.called.given.1.1,
      c.self.invariant.2,
      as_front _ _ (sym c.with_watcher-right.ensures.same) (as_waiting _ _ (sym none) (looked_stored g.W.Hosting.opened _ _ _ _ _ _ _ _ _ _ _ (as_waiting _ _ none c.self.invariant.3) c.args.claimed.now c.args.finished.now c.args.pass.now _ _ c.lend-right.ensures.commits.1 _ _ _ _ _ c.with_watcher-right.ensures.called)),
      c.self.invariant.4,
    )

pub returns-clause-entered : goal.returns-clause-entered
returns-clause-entered g c =
    let none : c.self.inside.waiting ≡ None = ap (λ (v : Stored). v.waiting) c.self.view_is ∙ c.requires.none_waits in
    looked_entered g.W.Hosting.opened _ _ _ _ _ _ _ _ _ _ _ (as_waiting _ _ none c.self.invariant.3) c.args.claimed.now c.args.finished.now c.args.pass.now _ _ c.lend-right.ensures.commits.1 _ _ _ _ _ c.with_watcher-right.ensures.called

pub returns-clause-finds : goal.returns-clause-finds
returns-clause-finds g c =
    let none : c.self.inside.waiting ≡ None = ap (λ (v : Stored). v.waiting) c.self.view_is ∙ c.requires.none_waits in
    looked_next g.W.Hosting.opened _ _ _ _ _ _ _ _ _ _ _ (as_waiting _ _ none c.self.invariant.3) c.args.claimed.now c.args.finished.now c.args.pass.now _ _ c.lend-right.ensures.commits.1 _ _ _ _ _ c.with_watcher-right.ensures.called c.requires.claim
