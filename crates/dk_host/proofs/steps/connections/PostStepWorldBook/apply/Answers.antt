use Rattle.std.proofs.Common.{◌++◌, List, inl, inr, refl, sym, ap, subst, ◌∙◌}
use Rattle.dk_types.specs.declared.event.Event.{Event}
use Rattle.dk_types.specs.declared.job.Input.{Input}
use Rattle.dk_model.specs.Events.{is_open}
use Rattle.dk_model.specs.Legal.{IsLegal}
use Rattle.dk_model.specs.Worlds.{World}
use Rattle.dk_host.specs.Calls.{post_events}
use Rattle.dk_host.specs.Books.{IsKept}
use Rattle.dk_host.proofs.KeptEvents.{room_for, post_room, the_one}
use Rattle.dk_host.proofs.Stepping.{adds, kept, legal, post_of, post_at, post_spared, world_is}
use Rattle.dk_host.proofs.Unentered.{post_unentered}
use Rattle.dk_host.proofs.steps.connections.PostStepWorldBook.apply.Goals as goal

pub returns-in_err-copy : goal.returns-in_err-copy
returns-in_err-copy g c =
    post_unentered g.W.Hosting.opened c.args.book.now c.args.book.now c.book.inside.core _ _ c.args.pass (subst (λ es. IsKept g.W.Hosting.opened es c.book.inside.core c.book.inside.commits.total c.book.inside.places.total) c.book.view_is c.book.invariant) refl
    g.W.Hosting.keeps c.args.self.conn c.args.self.input c.from_residual.result c.from_residual.ensures.1 (λ is. let none = c.in_err-copy.ensures.spared in absurd (cc (is, none)))

pub returns-in_err-room_for_post : goal.returns-in_err-room_for_post
returns-in_err-room_for_post g c =
    let k = subst (λ es. IsKept g.W.Hosting.opened es c.book.inside.core c.book.inside.commits.total c.book.inside.places.total) c.book.view_is c.book.invariant in
    post_unentered g.W.Hosting.opened c.args.book.now _ c.book.inside.core _ _ c.args.pass k (c.room_for_post.ensures.events ∙ c.book.view_is)
    g.W.Hosting.keeps c.args.self.conn c.args.self.input c.from_residual-in_err-room_for_post.result c.from_residual-in_err-room_for_post.ensures.1
    (λ is. (c.in_err-room_for_post.ensures.only, ap (λ (w : World). is_open w c.args.self.conn) (sym (world_is g.W.Hosting.opened c.args.book.now c.book.inside.core k.1)) ∙ c.in_err-room_for_post.ensures.spared is))

pub enter-requires-clause-legal : goal.enter-requires-clause-legal
enter-requires-clause-legal g c =
    let o = g.W.Hosting.opened in
    let b = c.book.inside in
    subst (λ (y : List Event × Input). IsLegal o (y.0 ++ post_events c.args.pass c.args.self.conn y.1 c.post-reply.result)) (λ i. (sym c.room_for_post.ensures.events i, sym c.of.ensures i))
    (legal o _ c.post-reply.new.self (post_at o b.history.events b.core c.post-reply.new.self b.commits.total b.places.total c.book.invariant c.args.pass c.args.self.conn c.args.self.input c.post-reply.result c.post-reply.ensures.event))

pub enter-requires-clause-kept : goal.enter-requires-clause-kept
enter-requires-clause-kept g c = λ on.
    c.post_event-event.ensures c.args.self.input (c.in_ok-copy.ensures.copy on) ∙ ap (λ x. post_events c.args.pass c.args.self.conn x c.post-reply.result) (sym c.of.ensures)

pub enter-requires-clause-room : goal.enter-requires-clause-room
enter-requires-clause-room g c = λ on e some.
    let o = g.W.Hosting.opened in
    let b = c.book.inside in
    elim (c.in_ok-room_for_post.ensures.room on) [
      | inl two ↦ room_for c.room_for_post.new.history.spare two e
      | inr t ↦ post_room o b.history.events c.args.pass c.args.self.conn (ap (λ (w : World). is_open w c.args.self.conn) (sym (world_is o b.history.events b.core c.book.invariant.1)) ∙ t.1) c.room_for_post.new.history.spare e c.args.self.input c.post-reply.result t.0
          (legal o _ c.post-reply.new.self (post_at o b.history.events b.core c.post-reply.new.self b.commits.total b.places.total c.book.invariant c.args.pass c.args.self.conn c.args.self.input c.post-reply.result c.post-reply.ensures.event))
          (the_one c.post_event-event.result e _ (c.post_event-event.ensures c.args.self.input (c.in_ok-copy.ensures.copy on)) some)
    ]

pub invariant_of-book-2 : goal.invariant_of-book-2
invariant_of-book-2 g c =
    let o = g.W.Hosting.opened in
    let b = c.book.inside in
    let events = post_events c.args.pass c.args.self.conn c.args.self.input c.post-reply.result in
    kept o b.history.events b.core c.post-reply.new.self b.commits.total b.places.total c.book.invariant c.args.pass events c.enter.new.self.events
    (post_at o b.history.events b.core c.post-reply.new.self b.commits.total b.places.total c.book.invariant c.args.pass c.args.self.conn c.args.self.input c.post-reply.result c.post-reply.ensures.event) (post_of c.args.pass c.args.self.conn c.args.self.input c.post-reply.result)
    (c.enter.ensures ∙ (λ i. c.room_for_post.ensures.events i ++ post_events c.args.pass c.args.self.conn (c.of.ensures i) c.post-reply.result)) c.post-reply.ensures.ready

pub returns : goal.returns
returns g c =
    let o = g.W.Hosting.opened in
    let b = c.book.inside in
    let events = post_events c.args.pass c.args.self.conn c.args.self.input c.post-reply.result in
    let k = subst (λ es. IsKept o es b.core b.commits.total b.places.total) c.book.view_is c.book.invariant in (
      events,
      c.enter.ensures ∙ (λ i. (c.room_for_post.ensures.events ∙ c.book.view_is) i ++ post_events c.args.pass c.args.self.conn (c.of.ensures i) c.post-reply.result),
      (post_of c.args.pass c.args.self.conn c.args.self.input c.post-reply.result).by,
      record {
        adds = adds o c.args.book.now b.core c.post-reply.new.self b.commits.total b.places.total k events (post_at o c.args.book.now b.core c.post-reply.new.self b.commits.total b.places.total k c.args.pass c.args.self.conn c.args.self.input c.post-reply.result c.post-reply.ensures.event);
        spared = post_spared o c.args.book.now b.core c.post-reply.new.self b.commits.total b.places.total k g.W.Hosting.keeps _ c.args.self.conn c.args.self.input c.post-reply.result c.post-reply.ensures.event;
      },
    )
