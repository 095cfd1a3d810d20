use Rattle.std.proofs.Common.{◌++◌, ap, subst, ◌∙◌, refl}
use Rattle.dk_host.specs.Calls.{hand_events}
use Rattle.dk_host.specs.Books.{IsKept}
use Rattle.dk_host.proofs.KeptEvents.{hand_kept}
use Rattle.dk_host.proofs.Stepping.{adds, kept, hand_of, hand_at, entering}
use Rattle.dk_host.proofs.Unentered.{hand_unentered}
use Rattle.dk_host.proofs.steps.connections.HandStepWorldBook.apply.Goals as goal

pub returns-in_err-outs : goal.returns-in_err-outs
returns-in_err-outs g c = hand_unentered g.W.Hosting.opened c.args.book.now c.args.book.now c.book.inside.core _ _ c.args.pass (subst (λ es. IsKept g.W.Hosting.opened es c.book.inside.core c.book.inside.commits.total c.book.inside.places.total) c.book.view_is c.book.invariant) refl c.args.self.conn c.args.self.most c.from_residual.result c.from_residual.ensures.0

pub returns-in_err-make_room : goal.returns-in_err-make_room
returns-in_err-make_room g c = hand_unentered g.W.Hosting.opened c.args.book.now _ c.book.inside.core _ _ c.args.pass (subst (λ es. IsKept g.W.Hosting.opened es c.book.inside.core c.book.inside.commits.total c.book.inside.places.total) c.book.view_is c.book.invariant) (c.make_room.ensures.events ∙ c.book.view_is) c.args.self.conn c.args.self.most c.from_residual-in_err-make_room.result c.from_residual-in_err-make_room.ensures.0

pub enter-requires-clause-legal : goal.enter-requires-clause-legal
enter-requires-clause-legal g c =
    let o = g.W.Hosting.opened in
    let b = c.book.inside in
    entering o b.history.events b.core c.hand-reply.new.self b.commits.total b.places.total c.book.invariant (hand_events c.args.pass c.args.self.conn c.args.self.most c.hand-reply.result) _ c.make_room.ensures.events
    (hand_at o b.history.events b.core c.hand-reply.new.self b.commits.total b.places.total c.book.invariant c.args.pass c.args.self.conn c.args.self.most c.hand-reply.result c.hand-reply.ensures.hands)

pub enter-requires-clause-kept : goal.enter-requires-clause-kept
enter-requires-clause-kept g c = λ on.
    let o = g.W.Hosting.opened in
    let b = c.book.inside in
    c.hand_event-event.ensures ∙ hand_kept o b.history.events b.core c.args.pass c.args.self.conn c.args.self.most _ c.hand-reply.result c.book.invariant.1 (c.in_ok-outs.ensures on)
    (entering o b.history.events b.core c.hand-reply.new.self b.commits.total b.places.total c.book.invariant (hand_events c.args.pass c.args.self.conn c.args.self.most c.hand-reply.result) b.history.events refl
    (hand_at o b.history.events b.core c.hand-reply.new.self b.commits.total b.places.total c.book.invariant c.args.pass c.args.self.conn c.args.self.most c.hand-reply.result c.hand-reply.ensures.hands))

pub invariant_of-book-2 : goal.invariant_of-book-2
invariant_of-book-2 g c =
    let o = g.W.Hosting.opened in
    let b = c.book.inside in
    let events = hand_events c.args.pass c.args.self.conn c.args.self.most c.hand-reply.result in
    kept o b.history.events b.core c.hand-reply.new.self b.commits.total b.places.total c.book.invariant c.args.pass events c.enter.new.self.events
    (hand_at o b.history.events b.core c.hand-reply.new.self b.commits.total b.places.total c.book.invariant c.args.pass c.args.self.conn c.args.self.most c.hand-reply.result c.hand-reply.ensures.hands) (hand_of c.args.pass c.args.self.conn c.args.self.most c.hand-reply.result)
    (c.enter.ensures ∙ ap (λ es. es ++ events) c.make_room.ensures.events) c.hand-reply.ensures.ready

pub returns : goal.returns
returns g c =
    let o = g.W.Hosting.opened in
    let b = c.book.inside in
    let events = hand_events c.args.pass c.args.self.conn c.args.self.most c.hand-reply.result in
    let k = subst (λ es. IsKept o es b.core b.commits.total b.places.total) c.book.view_is c.book.invariant in (
      events,
      c.enter.ensures ∙ ap (λ es. es ++ events) (c.make_room.ensures.events ∙ c.book.view_is),
      (hand_of c.args.pass c.args.self.conn c.args.self.most c.hand-reply.result).by,
      record {
        adds = adds o c.args.book.now b.core c.hand-reply.new.self b.commits.total b.places.total k events (hand_at o c.args.book.now b.core c.hand-reply.new.self b.commits.total b.places.total k c.args.pass c.args.self.conn c.args.self.most c.hand-reply.result c.hand-reply.ensures.hands);
        short = c.hand-reply.ensures.bodies (record { rules = o.rules; opened = o.durable; budget = o.budget; events = c.args.book.now; lawful = k.0; stands = k.1 });
      },
    )
