use Rattle.std.proofs.Common.{◌≡◌, ◌+◌, refl, sym, ap, subst, ◌∙◌, arith, is_some, if◌then◌else◌, min}
use Rattle.std.specs.Fn.{FnOnceReturnsAtMut}
use Rattle.dk_map.specs.AsMap.{map_of}
use Rattle.dk_map.specs.Entries.{find, put, without}
use Rattle.dk_map.proofs.Counts.{found_of}
use Rattle.dk_map.proofs.Seen.{get_seen, put_seen}
use Rattle.dk_model.specs.Keys.{conn_cmp}
use Rattle.dk_model.proofs.Maps.{conns_total}
use Rattle.dk_connections.specs.MarkedConnections.{is_done_at}
use Rattle.dk_connections.specs.Places.{place_cmp, place_of, IsInStep}
use Rattle.dk_connections.proofs.Kept.{alive_altered}
use Rattle.dk_connections.proofs.Orders.{same_place}
use Rattle.dk_connections.proofs.Rooms.{one_moved}
use Rattle.dk_connections.proofs.Steps.{alive_seen, placed_there, place_free, step_moved, step_still}
use Rattle.dk_connections.proofs.connections.Connections.alter.Goals as goal
use Rattle.dk_connections.proofs.connections.Connections.alter.Goals.{then-ne, else-ne}

-- where no connection is there
pub invariant_of-self : goal.invariant_of-self
invariant_of-self g c = subst (λ es. IsInStep es c.self.inside.places.entries) (sym c.in_err-from.ensures.changed.1) c.self.invariant

pub returns-in_err-from-clause-altered : goal.returns-in_err-from-clause-altered
returns-in_err-from-clause-altered g c =
    let none = c.in_err-from.ensures.changed in
    rw c.from_residual.ensures (
      sym none.0 ∙ get_seen _ (ap (λ s. s.connections) c.self.view_is) c.self.invariant.ordered c.args.conn,
      ap (map_of conn_cmp) none.1 ∙ ap (λ s. s.connections) c.self.view_is,
    )

pub returns-in_err-from-clause-spare : goal.returns-in_err-from-clause-spare
returns-in_err-from-clause-spare g c = ap (λ n. min n c.self.inside.places.spare) c.in_err-from.ensures.spare ∙ ap (λ s. s.spare) c.self.view_is

pub returns-in_err-from-clause-alive : goal.returns-in_err-from-clause-alive
returns-in_err-from-clause-alive g c = alive_seen _ _ c.self.invariant _ (ap (λ s. s.connections) c.self.view_is)

pub returns-in_err-from-clause-alive_still : goal.returns-in_err-from-clause-alive_still
returns-in_err-from-clause-alive_still g c = alive_seen _ _ (invariant_of-self g c) _ refl

-- its place is moved
pub insert-requires : goal.insert-requires
insert-requires g c =
    let h = c.in_ok-from.ensures.changed in
    let from : c.in_ok-from.from ≡ place_of c.args.conn h.0 = h.3.met.0 ∙ ap (place_of c.args.conn) h.3.shows in
    let was = sym (found_of (λ e. e.1) c.remove.result c.remove.ensures.value refl) ∙ ap (λ q. is_some (find place_cmp q c.self.inside.places.entries)) from ∙ placed_there _ _ c.self.invariant c.args.conn h.0 h.2 in
    let room = c.remove.ensures.spare ∙ ap (λ b. c.self.inside.places.spare + (if b then 1 else 0)) was in
    record { room = λ _. omega (arith, room) }

pub invariant_of-self-then-ne : goal.invariant_of-self-then-ne
invariant_of-self-then-ne g c =
    let h = c.in_ok-from.ensures.changed in
    let from : c.in_ok-from.from ≡ place_of c.args.conn h.0 = h.3.met.0 ∙ ap (place_of c.args.conn) h.3.shows in
    let to : c.in_ok-from.to ≡ place_of c.args.conn h.1 = h.3.met.1.0 ∙ ap (place_of c.args.conn) h.3.leaves in
    let altered : FnOnceReturnsAtMut g.F.FnOnce c.args.alter h.0 c.in_ok-from.answer h.1 =
    subst (λ l. FnOnceReturnsAtMut g.F.FnOnce c.args.alter l c.in_ok-from.answer h.1) h.3.shows (subst (λ x. FnOnceReturnsAtMut g.F.FnOnce c.args.alter h.3.shown.now c.in_ok-from.answer x) h.3.leaves h.3.met.1.1)
    in
    let lives = c.requires.lives h.0 h.1 c.in_ok-from.answer (sym h.2 ∙ get_seen _ (ap (λ s. s.connections) c.self.view_is) c.self.invariant.ordered c.args.conn) altered (ap is_done_at (sym h.2) ∙ c.self.invariant.alive c.args.conn) in
    step_moved _ _ c.self.invariant c.args.conn h.0 h.1 h.2 lives _ h.4 c.in_ok-from.ensures.ordered _ (c.remove.ensures.entries ∙ ap (λ q. without place_cmp q c.self.inside.places.entries) from) c.remove.ensures.ordered _
    (c.insert.ensures.entries ∙ ap (λ q. put place_cmp q tt c.remove.new.self.entries) to) c.insert.ensures.ordered

-- its place is the same
pub invariant_of-self-else-ne : goal.invariant_of-self-else-ne
invariant_of-self-else-ne g c =
    let h = c.in_ok-from.ensures.changed in
    let from : c.in_ok-from.from ≡ place_of c.args.conn h.0 = h.3.met.0 ∙ ap (place_of c.args.conn) h.3.shows in
    let to : c.in_ok-from.to ≡ place_of c.args.conn h.1 = h.3.met.1.0 ∙ ap (place_of c.args.conn) h.3.leaves in
    let altered : FnOnceReturnsAtMut g.F.FnOnce c.args.alter h.0 c.in_ok-from.answer h.1 =
    subst (λ l. FnOnceReturnsAtMut g.F.FnOnce c.args.alter l c.in_ok-from.answer h.1) h.3.shows (subst (λ x. FnOnceReturnsAtMut g.F.FnOnce c.args.alter h.3.shown.now c.in_ok-from.answer x) h.3.leaves h.3.met.1.1)
    in
    let lives = c.requires.lives h.0 h.1 c.in_ok-from.answer (sym h.2 ∙ get_seen _ (ap (λ s. s.connections) c.self.view_is) c.self.invariant.ordered c.args.conn) altered (ap is_done_at (sym h.2) ∙ c.self.invariant.alive c.args.conn) in
    step_still _ _ c.self.invariant c.args.conn h.0 h.1 h.2 lives _ h.4 c.in_ok-from.ensures.ordered (sym from ∙ same_place c.in_ok-from.from c.in_ok-from.to c.if-ne.ensures ∙ to)

pub returns-clause-altered : goal.returns-clause-altered
returns-clause-altered g c =
    let h = c.in_ok-from.ensures.changed in
    let seen = put_seen conns_total _ (ap (λ s. s.connections) c.self.view_is) c.self.invariant.ordered c.args.conn h.1 _ h.4 in
    let altered : FnOnceReturnsAtMut g.F.FnOnce c.args.alter h.0 c.in_ok-from.answer h.1 =
    subst (λ l. FnOnceReturnsAtMut g.F.FnOnce c.args.alter l c.in_ok-from.answer h.1) h.3.shows (subst (λ x. FnOnceReturnsAtMut g.F.FnOnce c.args.alter h.3.shown.now c.in_ok-from.answer x) h.3.leaves h.3.met.1.1)
    in
    (h.0, h.1, sym h.2 ∙ get_seen _ (ap (λ s. s.connections) c.self.view_is) c.self.invariant.ordered c.args.conn, altered, elim c.if-ne.branch [ then-ne w ↦ ap (λ s. s.connections) w.self-is ∙ seen | else-ne w ↦ ap (λ s. s.connections) w.self-is ∙ seen ])

pub returns-clause-spare : goal.returns-clause-spare
returns-clause-spare g c =
    let h = c.in_ok-from.ensures.changed in
    let from : c.in_ok-from.from ≡ place_of c.args.conn h.0 = h.3.met.0 ∙ ap (place_of c.args.conn) h.3.shows in
    let to : c.in_ok-from.to ≡ place_of c.args.conn h.1 = h.3.met.1.0 ∙ ap (place_of c.args.conn) h.3.leaves in
    let altered : FnOnceReturnsAtMut g.F.FnOnce c.args.alter h.0 c.in_ok-from.answer h.1 =
    subst (λ l. FnOnceReturnsAtMut g.F.FnOnce c.args.alter l c.in_ok-from.answer h.1) h.3.shows (subst (λ x. FnOnceReturnsAtMut g.F.FnOnce c.args.alter h.3.shown.now c.in_ok-from.answer x) h.3.leaves h.3.met.1.1)
    in
    let lives = c.requires.lives h.0 h.1 c.in_ok-from.answer (sym h.2 ∙ get_seen _ (ap (λ s. s.connections) c.self.view_is) c.self.invariant.ordered c.args.conn) altered (ap is_done_at (sym h.2) ∙ c.self.invariant.alive c.args.conn) in
    let seen = ap (λ s. s.spare) c.self.view_is in
    elim c.if-ne.branch [
      | then-ne w ↦
          let was = sym (found_of (λ e. e.1) w.remove.result w.remove.ensures.value refl) ∙ ap (λ q. is_some (find place_cmp q c.self.inside.places.entries)) from ∙ placed_there _ _ c.self.invariant c.args.conn h.0 h.2 in
          let gone = w.remove.ensures.entries ∙ ap (λ q. without place_cmp q c.self.inside.places.entries) from in
          let free = ap is_some (w.insert.ensures.old ∙ ap (λ q. find place_cmp q w.remove.new.self.entries) to) ∙ place_free _ _ c.self.invariant c.args.conn h.0 h.1 h.2 lives _ h.4 c.in_ok-from.ensures.ordered _ gone w.remove.ensures.ordered in
          ap (λ s. s.spare) w.self-is ∙ one_moved _ _ _ _ _ _ (is_some w.remove.result) (is_some w.insert.result) seen c.in_ok-from.ensures.spare w.remove.ensures.spare w.insert.ensures.spare was free
      | else-ne w ↦ ap (λ s. s.spare) w.self-is ∙ ap (λ n. min n c.self.inside.places.spare) c.in_ok-from.ensures.spare ∙ seen
    ]

pub returns-clause-alive : goal.returns-clause-alive
returns-clause-alive g c = alive_seen _ _ c.self.invariant _ (ap (λ s. s.connections) c.self.view_is)

pub returns-clause-alive_still : goal.returns-clause-alive_still
returns-clause-alive_still g c =
    let a = returns-clause-altered g c in
    let alive = returns-clause-alive g c in
    alive_altered _ _ c.args.conn a.1 a.4 (c.requires.lives a.0 a.1 c.in_ok-from.answer a.2 a.3 (ap is_done_at a.2 ∙ alive c.args.conn)) alive
