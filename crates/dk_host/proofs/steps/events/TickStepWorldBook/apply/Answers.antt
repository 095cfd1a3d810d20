use Rattle.std.proofs.Common.{◌++◌, ap, subst, ◌∙◌, [], ◌∷◌}
use Rattle.dk_types.specs.declared.event.Event.TheVariants as event
use Rattle.dk_host.specs.Books.{IsKept}
use Rattle.dk_host.proofs.Stepping.{adds, kept, more, tick_of, entering}
use Rattle.dk_host.proofs.Unentered.{tick_unentered}
use Rattle.dk_host.proofs.steps.events.TickStepWorldBook.apply.Goals as goal

pub returns-in_err-make_room : goal.returns-in_err-make_room
returns-in_err-make_room g c = tick_unentered g.W.Hosting.opened c.args.book.now _ c.book.inside.core _ _ c.args.pass (subst (λ es. IsKept g.W.Hosting.opened es c.book.inside.core c.book.inside.commits.total c.book.inside.places.total) c.book.view_is c.book.invariant) (c.make_room.ensures.events ∙ c.book.view_is) g.W.Hosting.keeps c.args.self.moment c.from_residual.result c.from_residual.ensures.0 c.in_err-make_room.ensures.only

pub enter-requires-clause-legal : goal.enter-requires-clause-legal
enter-requires-clause-legal g c =
    let o = g.W.Hosting.opened in
    let b = c.book.inside in
    entering o b.history.events b.core c.tick.new.self b.commits.total b.places.total c.book.invariant (event.Tick c.args.pass c.args.self.moment ∷ []) _ c.make_room.ensures.events
    (more o b.history.events b.core c.tick.new.self b.commits.total b.places.total c.book.invariant _ (c.tick.ensures.event c.args.pass))

pub invariant_of-book-2 : goal.invariant_of-book-2
invariant_of-book-2 g c =
    let o = g.W.Hosting.opened in
    let b = c.book.inside in
    let events = event.Tick c.args.pass c.args.self.moment ∷ [] in
    kept o b.history.events b.core c.tick.new.self b.commits.total b.places.total c.book.invariant c.args.pass events c.enter.new.self.events
    (more o b.history.events b.core c.tick.new.self b.commits.total b.places.total c.book.invariant _ (c.tick.ensures.event c.args.pass)) (tick_of c.args.pass c.args.self.moment)
    (c.enter.ensures ∙ ap (λ es. es ++ events) c.make_room.ensures.events) c.tick.ensures.ready

pub returns : goal.returns
returns g c =
    let o = g.W.Hosting.opened in
    let b = c.book.inside in
    let events = event.Tick c.args.pass c.args.self.moment ∷ [] in
    let k = subst (λ es. IsKept o es b.core b.commits.total b.places.total) c.book.view_is c.book.invariant in (
      events,
      c.enter.ensures ∙ ap (λ es. es ++ events) (c.make_room.ensures.events ∙ c.book.view_is),
      (tick_of c.args.pass c.args.self.moment).by,
      record {
        adds = adds o c.args.book.now b.core c.tick.new.self b.commits.total b.places.total k events (more o c.args.book.now b.core c.tick.new.self b.commits.total b.places.total k _ (c.tick.ensures.event c.args.pass));
        only = tt;
      },
    )
