use Rattle.std.proofs.Common.{◌++◌, ap, subst, ◌∙◌, refl}
use Rattle.dk_host.specs.Calls.{claim_events}
use Rattle.dk_host.specs.Books.{IsKept}
use Rattle.dk_host.proofs.KeptEvents.{claim_kept}
use Rattle.dk_host.proofs.Stepping.{adds, kept, claim_of, claim_at, claim_grants, entering}
use Rattle.dk_host.proofs.Unentered.{claim_unentered}
use Rattle.dk_host.proofs.steps.runs.ClaimStepWorldBook.apply.Goals as goal

pub returns-in_err-job : goal.returns-in_err-job
returns-in_err-job g c = claim_unentered g.W.Hosting.opened c.args.book.now c.args.book.now c.book.inside.core _ _ c.args.pass (subst (λ es. IsKept g.W.Hosting.opened es c.book.inside.core c.book.inside.commits.total c.book.inside.places.total) c.book.view_is c.book.invariant) refl c.from_residual.result c.from_residual.ensures.1

pub returns-in_err-make_room : goal.returns-in_err-make_room
returns-in_err-make_room g c = claim_unentered g.W.Hosting.opened c.args.book.now _ c.book.inside.core _ _ c.args.pass (subst (λ es. IsKept g.W.Hosting.opened es c.book.inside.core c.book.inside.commits.total c.book.inside.places.total) c.book.view_is c.book.invariant) (c.make_room.ensures.events ∙ c.book.view_is) c.from_residual-in_err-make_room.result c.from_residual-in_err-make_room.ensures.1

pub enter-requires-clause-legal : goal.enter-requires-clause-legal
enter-requires-clause-legal g c =
    let o = g.W.Hosting.opened in
    let b = c.book.inside in
    entering o b.history.events b.core c.claim-reply.new.self b.commits.total b.places.total c.book.invariant (claim_events c.args.pass c.claim-reply.result) _ c.make_room.ensures.events
    (claim_at o b.history.events b.core c.claim-reply.new.self b.commits.total b.places.total c.book.invariant c.args.pass c.claim-reply.result c.claim-reply.ensures.event)

pub enter-requires-clause-kept : goal.enter-requires-clause-kept
enter-requires-clause-kept g c = λ on.
    let o = g.W.Hosting.opened in
    let b = c.book.inside in
    c.claim_event-event.ensures ∙ claim_kept o b.history.events b.core c.args.pass _ c.claim-reply.result c.book.invariant.1 (c.in_ok-job.ensures on c.book.invariant.1.tracked)
    (entering o b.history.events b.core c.claim-reply.new.self b.commits.total b.places.total c.book.invariant (claim_events c.args.pass c.claim-reply.result) b.history.events refl
    (claim_at o b.history.events b.core c.claim-reply.new.self b.commits.total b.places.total c.book.invariant c.args.pass c.claim-reply.result c.claim-reply.ensures.event))

pub invariant_of-book-2 : goal.invariant_of-book-2
invariant_of-book-2 g c =
    let o = g.W.Hosting.opened in
    let b = c.book.inside in
    let events = claim_events c.args.pass c.claim-reply.result in
    kept o b.history.events b.core c.claim-reply.new.self b.commits.total b.places.total c.book.invariant c.args.pass events c.enter.new.self.events
    (claim_at o b.history.events b.core c.claim-reply.new.self b.commits.total b.places.total c.book.invariant c.args.pass c.claim-reply.result c.claim-reply.ensures.event) (claim_of c.args.pass c.claim-reply.result)
    (c.enter.ensures ∙ ap (λ es. es ++ events) c.make_room.ensures.events) c.claim-reply.ensures.ready

pub returns : goal.returns
returns g c =
    let o = g.W.Hosting.opened in
    let b = c.book.inside in
    let events = claim_events c.args.pass c.claim-reply.result in
    let k = subst (λ es. IsKept o es b.core b.commits.total b.places.total) c.book.view_is c.book.invariant in (
      events,
      c.enter.ensures ∙ ap (λ es. es ++ events) (c.make_room.ensures.events ∙ c.book.view_is),
      (claim_of c.args.pass c.claim-reply.result).by,
      record {
        adds = adds o c.args.book.now b.core c.claim-reply.new.self b.commits.total b.places.total k events (claim_at o c.args.book.now b.core c.claim-reply.new.self b.commits.total b.places.total k c.args.pass c.claim-reply.result c.claim-reply.ensures.event);
        grants = claim_grants o c.args.book.now b.core c.claim-reply.new.self b.commits.total b.places.total k c.args.pass c.claim-reply.result c.claim-reply.ensures.event;
      },
    )
