use Rattle.std.proofs.Common.{None, Some, sym, ap, subst}
use Rattle.dk_connections.proofs.Soonest.{IsSoonest, least_of, soonest_of_none, soonest_of_idle, soonest_at_front}
use Rattle.dk_connections.proofs.Turns.{has_input, picked_of, ready_of}
use Rattle.dk_connections.proofs.connections.Connections.least_ready.Goals as goal

none_at_all : (c : goal.In_default) → IsSoonest c.args.self.now.connections None
none_at_all c = subst (λ m. IsSoonest m None) (ap (λ s. s.connections) c.self.view_is) (soonest_of_none _ _ c.self.invariant (sym c.in_default.ensures))

pub returns-in_default-clause-least : goal.returns-in_default-clause-least
returns-in_default-clause-least c = least_of _ None (none_at_all c)

pub returns-in_default-clause-picked : goal.returns-in_default-clause-picked
returns-in_default-clause-picked c = picked_of _ None (none_at_all c)

none_ready : (c : goal.Then-place) → IsSoonest c.args.self.now.connections None
none_ready c =
    subst (λ m. IsSoonest m None) (ap (λ s. s.connections) c.self.view_is) (soonest_of_idle _ _ c.self.invariant c.in-Some.place.now _ (sym c.in-Some.ensures) c.if-place.true)

pub returns-then-place-clause-least : goal.returns-then-place-clause-least
returns-then-place-clause-least c = least_of _ None (none_ready c)

pub returns-then-place-clause-picked : goal.returns-then-place-clause-picked
returns-then-place-clause-picked c = picked_of _ None (none_ready c)

at_front : (c : goal.After-result-1) → IsSoonest c.args.self.now.connections (Some c.in-Some.place.now.conn)
at_front c =
    subst (λ m. IsSoonest m (Some c.in-Some.place.now.conn)) (ap (λ s. s.connections) c.self.view_is)
    (soonest_at_front _ _ c.self.invariant c.in-Some.place.now _ (sym c.in-Some.ensures) c.if-place.false)

pub returns-clause-least : goal.returns-clause-least
returns-clause-least c = least_of _ (Some c.in-Some.place.now.conn) (at_front c)

pub returns-clause-picked : goal.returns-clause-picked
returns-clause-picked c = picked_of _ (Some c.in-Some.place.now.conn) (at_front c)

pub returns-clause-ready : goal.returns-clause-ready
returns-clause-ready c = ready_of _ c.in-Some.place.now.conn (at_front c)

pub returns-clause-waits : goal.returns-clause-waits
returns-clause-waits c = has_input _ (ready_of _ c.in-Some.place.now.conn (at_front c))
