use Rattle.std.proofs.Common.{◌++◌, ap, sym, subst, ◌∙◌, [], ◌∷◌}
use Rattle.dk_types.specs.declared.event.Event.TheVariants as event
use Rattle.dk_model.specs.Legal.{IsLegal}
use Rattle.dk_host.specs.Books.{IsKept}
use Rattle.dk_host.proofs.Stepping.{adds, kept, legal, release_at, release_of, may_granted}
use Rattle.dk_host.proofs.steps.runs.ReleaseStepWorldBook.apply.Goals as goal

pub release-requires : goal.release-requires
release-requires g c =
    let o = g.W.Hosting.opened in
    let k = subst (λ es. IsKept o es c.book.inside.core c.book.inside.commits.total c.book.inside.places.total) c.book.view_is c.book.invariant in
    record { granted = may_granted o c.args.pass c.args.book.now c.book.inside.core c.args.self.claimed k.1 c.requires }

pub enter-requires-clause-legal : goal.enter-requires-clause-legal
enter-requires-clause-legal g c =
    let o = g.W.Hosting.opened in
    let b = c.book.inside in
    subst (λ r. IsLegal o (b.history.events ++ event.Release c.args.pass r ∷ [])) (sym c.run-run.ensures) (legal o _ c.release.new.self
    (release_at o b.history.events b.core c.release.new.self b.commits.total b.places.total c.book.invariant c.args.pass c.args.self.claimed c.requires.0 c.release.ensures.event))

pub invariant_of-book : goal.invariant_of-book
invariant_of-book g c =
    let o = g.W.Hosting.opened in
    kept o c.book.inside.history.events c.book.inside.core c.release.new.self c.book.inside.commits.total c.book.inside.places.total c.book.invariant c.args.pass (event.Release c.args.pass c.args.self.claimed.run ∷ []) c.enter.new.self.events
    (release_at o c.book.inside.history.events c.book.inside.core c.release.new.self c.book.inside.commits.total c.book.inside.places.total c.book.invariant c.args.pass c.args.self.claimed c.requires.0 c.release.ensures.event) (release_of c.args.pass c.args.self.claimed) (c.enter.ensures ∙ ap (λ r. c.book.inside.history.events ++ event.Release c.args.pass r ∷ []) c.run-run.ensures) c.release.ensures.ready

pub returns : goal.returns
returns g c =
    let o = g.W.Hosting.opened in
    let k = subst (λ es. IsKept o es c.book.inside.core c.book.inside.commits.total c.book.inside.places.total) c.book.view_is c.book.invariant in (
      event.Release c.args.pass c.args.self.claimed.run ∷ [],
      (c.enter.ensures ∙ ap (λ r. c.book.inside.history.events ++ event.Release c.args.pass r ∷ []) c.run-run.ensures) ∙ ap (λ es. es ++ (event.Release c.args.pass c.args.self.claimed.run ∷ [])) c.book.view_is,
      (release_of c.args.pass c.args.self.claimed).by,
      adds o c.args.book.now c.book.inside.core c.release.new.self c.book.inside.commits.total c.book.inside.places.total k (event.Release c.args.pass c.args.self.claimed.run ∷ []) (release_at o c.args.book.now c.book.inside.core c.release.new.self c.book.inside.commits.total c.book.inside.places.total k c.args.pass c.args.self.claimed c.requires.0 c.release.ensures.event),
    )
