use Rattle.std.proofs.Common.{◌+◌, ◌++◌, [], ◌∷◌, refl, sym, ap, subst, ◌∙◌}
use Rattle.dk_types.specs.declared.event.Event.{Event}
use Rattle.dk_types.specs.declared.event.Event.TheVariants as event
use Rattle.dk_model.specs.Legal.{IsLegal}
use Rattle.dk_host.specs.Books.{IsKept}
use Rattle.dk_host.specs.Steps.{MayPublish}
use Rattle.dk_host.proofs.Stepping.{all_one, legal, may_granted}
use Rattle.dk_host.proofs.Committing.{publish_at, publish_prepared, publish_room, publish_kept, publish_gives}
use Rattle.dk_host.proofs.steps.commits.PublishStepWorldBook.apply.Goals as goal

pub publish-seq-requires-clause-granted : goal.publish-seq-requires-clause-granted
publish-seq-requires-clause-granted g c =
    let o = g.W.Hosting.opened in
    let k = subst (λ es. IsKept o es c.book.inside.core c.book.inside.commits.total c.book.inside.places.total) c.book.view_is c.book.invariant in
    may_granted o c.args.pass c.args.book.now c.book.inside.core c.args.self.claimed k.1 c.requires.2.ends

pub publish-seq-requires-clause-prepared : goal.publish-seq-requires-clause-prepared
publish-seq-requires-clause-prepared g c =
    let o = g.W.Hosting.opened in
    let k = subst (λ es. IsKept o es c.book.inside.core c.book.inside.commits.total c.book.inside.places.total) c.book.view_is c.book.invariant in
    publish_prepared o c.args.book.now c.book.inside.core c.book.inside.core c.book.inside.commits.total c.book.inside.places.total k c.args.pass c.args.self.claimed c.args.self.finished c.args.self.prepared _ _ c.requires.2 c.audit.ensures.commits.0 c.audit.ensures.places.0

pub publish-seq-requires-clause-room : goal.publish-seq-requires-clause-room
publish-seq-requires-clause-room g c =
    let o = g.W.Hosting.opened in
    let k = subst (λ es. IsKept o es c.book.inside.core c.book.inside.commits.total c.book.inside.places.total) c.book.view_is c.book.invariant in
    publish_room o c.args.book.now c.book.inside.core c.book.inside.core c.book.inside.commits.total c.book.inside.places.total k c.args.pass c.args.self.claimed c.args.self.finished c.args.self.prepared _ _ c.requires.2 c.audit.ensures.commits.0 c.audit.ensures.places.0

pub enter-requires-clause-legal : goal.enter-requires-clause-legal
enter-requires-clause-legal g c =
    let o = g.W.Hosting.opened in
    let may = subst (λ es. MayPublish o c.args.pass es c.args.self.claimed c.args.self.finished c.args.self.prepared c.args.self.right.commits.amount c.args.self.right.places.amount) (sym c.book.view_is) c.requires.2 in
    subst (λ (e : Event). IsLegal o (c.book.inside.history.events ++ e ∷ [])) (λ i. event.Commit c.args.pass (sym c.run-run.ensures i) c.publish-seq.result (sym (c.of.ensures ∙ c.outcome.ensures) i))
    (legal o _ c.publish-seq.new.self (publish_at o c.book.inside.history.events c.book.inside.core c.publish-seq.new.self c.book.inside.commits.total c.book.inside.places.total c.book.invariant c.args.pass c.args.self.claimed c.args.self.finished c.args.self.prepared _ _ may
    c.audit.ensures.commits.0 c.audit.ensures.places.0 c.publish-seq.result c.publish-seq.ensures.number c.publish-seq.ensures.commits))

pub invariant_of-book : goal.invariant_of-book
invariant_of-book g c =
    let o = g.W.Hosting.opened in
    let may = subst (λ es. MayPublish o c.args.pass es c.args.self.claimed c.args.self.finished c.args.self.prepared c.args.self.right.commits.amount c.args.self.right.places.amount) (sym c.book.view_is) c.requires.2 in
    publish_kept o c.book.inside.history.events c.book.inside.core c.publish-seq.new.self c.book.inside.commits.total c.book.inside.places.total c.book.invariant c.args.pass c.args.self.claimed c.args.self.finished c.args.self.prepared _ _ may
    c.audit.ensures.commits.0 c.audit.ensures.places.0 c.publish-seq.result c.publish-seq.ensures.number c.publish-seq.ensures.commits _ _ c.enter.new.self.events (c.count.ensures.commits.1 ∙ ap (λ n. n + 1) c.audit.ensures.commits.2) c.let_go.ensures.places.1
    (c.enter.ensures ∙ (λ i. c.book.inside.history.events ++ event.Commit c.args.pass (c.run-run.ensures i) c.publish-seq.result ((c.of.ensures ∙ c.outcome.ensures) i) ∷ []))

pub returns : goal.returns
returns g c =
    let o = g.W.Hosting.opened in
    let k = subst (λ es. IsKept o es c.book.inside.core c.book.inside.commits.total c.book.inside.places.total) c.book.view_is c.book.invariant in
    let e = event.Commit c.args.pass c.args.self.claimed.run c.publish-seq.result c.args.self.finished.outcome in (
      e ∷ [],
      (c.enter.ensures ∙ (λ i. c.book.inside.history.events ++ event.Commit c.args.pass (c.run-run.ensures i) c.publish-seq.result ((c.of.ensures ∙ c.outcome.ensures) i) ∷ [])) ∙ ap (λ es. es ++ e ∷ []) c.book.view_is,
      all_one c.args.pass e refl,
      (
        c.let_go.ensures.whole.0 ∙ c.count.ensures.whole.0,
        c.let_go.ensures.whole.1,
        c.let_go.ensures.places.0,
        c.let_go.ensures.commits ∙ (c.count.ensures.commits.0 ∙ ap (λ n. n + 1) c.audit.ensures.commits.1),
        publish_gives o c.args.book.now c.book.inside.core c.publish-seq.new.self c.book.inside.commits.total c.book.inside.places.total k c.args.pass c.args.self.claimed c.args.self.finished c.args.self.prepared _ _ c.requires.2
            c.audit.ensures.commits.0 c.audit.ensures.places.0 c.publish-seq.result c.publish-seq.ensures.number c.publish-seq.ensures.commits,
      ),
    )
