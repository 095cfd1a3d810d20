use Rattle.std.proofs.Common.{◌++◌, ap, subst, ◌∙◌, refl}
use Rattle.dk_host.specs.Calls.{connect_events}
use Rattle.dk_host.specs.Books.{IsKept}
use Rattle.dk_host.proofs.Stepping.{adds, kept, connect_of, connect_at, entering}
use Rattle.dk_host.proofs.Unentered.{connect_unentered}
use Rattle.dk_host.proofs.steps.connections.ConnectStepWorldBook.apply.Goals as goal

pub returns-in_err-name : goal.returns-in_err-name
returns-in_err-name g c = connect_unentered g.W.Hosting.opened c.args.book.now c.args.book.now c.book.inside.core _ _ c.args.pass (subst (λ es. IsKept g.W.Hosting.opened es c.book.inside.core c.book.inside.commits.total c.book.inside.places.total) c.book.view_is c.book.invariant) refl c.args.self.name.now c.from_residual.result c.from_residual.ensures.1

pub returns-in_err-make_room : goal.returns-in_err-make_room
returns-in_err-make_room g c = connect_unentered g.W.Hosting.opened c.args.book.now _ c.book.inside.core _ _ c.args.pass (subst (λ es. IsKept g.W.Hosting.opened es c.book.inside.core c.book.inside.commits.total c.book.inside.places.total) c.book.view_is c.book.invariant) (c.make_room.ensures.events ∙ c.book.view_is) c.args.self.name.now c.from_residual-in_err-make_room.result c.from_residual-in_err-make_room.ensures.1

pub enter-requires-clause-legal : goal.enter-requires-clause-legal
enter-requires-clause-legal g c =
    let o = g.W.Hosting.opened in
    let b = c.book.inside in
    entering o b.history.events b.core c.connect-reply.new.self b.commits.total b.places.total c.book.invariant (connect_events c.args.pass c.args.self.name.now c.connect-reply.result) _ c.make_room.ensures.events
    (connect_at o b.history.events b.core c.connect-reply.new.self b.commits.total b.places.total c.book.invariant c.args.pass c.args.self.name.now c.connect-reply.result c.connect-reply.ensures.event)

pub invariant_of-book-2 : goal.invariant_of-book-2
invariant_of-book-2 g c =
    let o = g.W.Hosting.opened in
    let b = c.book.inside in
    let events = connect_events c.args.pass c.args.self.name.now c.connect-reply.result in
    kept o b.history.events b.core c.connect-reply.new.self b.commits.total b.places.total c.book.invariant c.args.pass events c.enter.new.self.events
    (connect_at o b.history.events b.core c.connect-reply.new.self b.commits.total b.places.total c.book.invariant c.args.pass c.args.self.name.now c.connect-reply.result c.connect-reply.ensures.event) (connect_of c.args.pass c.args.self.name.now c.connect-reply.result)
    (c.enter.ensures ∙ ap (λ es. es ++ events) c.make_room.ensures.events) c.connect-reply.ensures.ready

pub returns : goal.returns
returns g c =
    let o = g.W.Hosting.opened in
    let b = c.book.inside in
    let events = connect_events c.args.pass c.args.self.name.now c.connect-reply.result in
    let k = subst (λ es. IsKept o es b.core b.commits.total b.places.total) c.book.view_is c.book.invariant in (
      events,
      c.enter.ensures ∙ ap (λ es. es ++ events) (c.make_room.ensures.events ∙ c.book.view_is),
      (connect_of c.args.pass c.args.self.name.now c.connect-reply.result).by,
      adds o c.args.book.now b.core c.connect-reply.new.self b.commits.total b.places.total k events (connect_at o c.args.book.now b.core c.connect-reply.new.self b.commits.total b.places.total k c.args.pass c.args.self.name.now c.connect-reply.result c.connect-reply.ensures.event),
    )
